-- An expression that was not read is changed: what is known stays right.
use Rattle.std.proofs.Common.{◌≡◌, ◌≢◌, ℕ, zero, suc, List, length, set, refl, sym, ap, subst, ◌∙◌, arith, length-set}
use Rattle.std.proofs.lemmas.List.{length-map}
use Rattle.std.proofs.lemmas.Option.{slice_get-map}
use Rattle.std.specs.Prelude.{Option, Some, None, Ok, slice_get, option_map}
use Rattle.std.proofs.Common.{inl, inr}
use Rattle.gb_provider.specs.declared.fault.Chosen.{Chosen}
use Rattle.gb_provider.specs.declared.property_change.Change.{Change}
use Rattle.gb_provider.specs.declared.expression.Expression.{Expression}
use Rattle.gb_provider.specs.declared.expression.Expression.TheVariants.{OfOutput, OfProperty}
use Rattle.gb_provider.specs.declared.expression.Outcome.{Outcome}
use Rattle.gb_provider.specs.declared.evaluation.State.{State}
use Rattle.gb_provider.specs.declared.evaluation.Reading.TheVariants.{Settles}
use Rattle.gb_provider.specs.Changes.{AreChanged, changed}
use Rattle.gb_provider.specs.Meanings.{Meanings}
use Rattle.gb_provider.specs.Remembered.{IsForgotten, IsRemembered}
use Rattle.gb_provider.specs.Rounds.{Rule, Answers, Reads, after_operand, and_then, answer_after, reading, settled}
use Rattle.gb_provider.specs.Rules.{output_place, rule, rules}
use Rattle.gb_provider.specs.Search.{IsSound, known}
use Rattle.gb_provider.proofs.GrowLemmas.{mapped_at, same_rule}
use Rattle.gb_provider.proofs.IndexLemmas.{places_changed, places_declared}
use Rattle.gb_provider.proofs.RecallLemmas.{none_remembered}
use Rattle.gb_provider.proofs.RoundsLemmas.{after_is, answer_found, settled_is}
use Rattle.gb_provider.proofs.SearchLemmas.{get_set_other}

-- two tables that differ at one entry, which is not known
module _ {A : Type 0} (old new : List (Rule ℕ A)) (same : length new ≡ length old) (changed : ℕ) (states : List (State A)) (unknown : known states changed ≡ None) (sound : IsSound old states)
    (alike : (e : ℕ) (r : Rule ℕ A) → changed ≢ e → slice_get old e ≡ Some r → (s : Rule ℕ A) × (slice_get new e ≡ Some s) × ((f : ℕ → Option A) → reading f s ≡ reading f r)) where
  module _ (n : ℕ) (before : (e : ℕ) (a b : A) → known states e ≡ Some b → answer_after old n e ≡ Some a → answer_after new n e ≡ Some a) where
    stays_at : (operand : ℕ) (next : A → Rule ℕ A) (a b : A) → ((c : A) → reading (known states) (next c) ≡ Settles b → reading (answer_after old n) (next c) ≡ Settles a → reading (answer_after new n) (next c) ≡ Settles a)
        → (o p : Option A) → known states operand ≡ o → answer_after old n operand ≡ p
        → after_operand operand (λ c. reading (known states) (next c)) o ≡ Settles b → after_operand operand (λ c. reading (answer_after old n) (next c)) p ≡ Settles a
        → reading (answer_after new n) (Reads operand next) ≡ Settles a
    stays_at operand next a b ih None p was is e d = cc
    stays_at operand next a b ih (Some k) None was is e d = cc
    stays_at operand next a b ih (Some k) (Some m) was is e d =
        let known_right = sound.right operand k was in
        let found = (answer_found old n).keeps operand m is in
        let equal : k ≡ m = cc in
        after_is operand (λ c. reading (answer_after new n) (next c)) (answer_after new n operand) (Some m) (before operand m k was is)
        ∙ ih m (subst (λ c. reading (known states) (next c) ≡ Settles b) equal e) d

    -- a rule that settles on known answers settles alike
    stays : (r : Rule ℕ A) (a b : A) → reading (known states) r ≡ Settles b → reading (answer_after old n) r ≡ Settles a → reading (answer_after new n) r ≡ Settles a
    stays (Answers c) a b e d = d
    stays (Reads operand next) a b e d = stays_at operand next a b (λ c. stays (next c) a b) (known states operand) (answer_after old n operand) refl refl e d

  other_entry : (e : ℕ) (b : A) → known states e ≡ Some b → changed ≢ e
  other_entry e b is equal = let here : known states e ≡ None = ap (known states) (sym equal) ∙ unknown in cc

  still : (n e : ℕ) (a b : A) → known states e ≡ Some b → answer_after old n e ≡ Some a → answer_after new n e ≡ Some a
  still zero e a b was is = cc
  still (suc n) e a b was is =
      let here = sound.settled e b was in
      let there = alike e here.0 (other_entry e b was) here.1 in
      let now : settled (reading (answer_after old n) here.0) ≡ Some a = sym (ap (and_then (λ r. settled (reading (answer_after old n) r))) here.1) ∙ is in
      ap (and_then (λ r. settled (reading (answer_after new n) r))) there.1
      ∙ ap settled (there.2 (answer_after new n) ∙ stays n (still n) here.0 a b here.2 (settled_is (reading (answer_after old n) here.0) a now))

  -- what is known stays right
  pub sound_changed : IsSound new states
  sound_changed = record {
    right = λ e a was. ap (λ n. answer_after new n e) same ∙ still (length old) e a a was (sound.right e a was);
    settled = λ e a was.
        let here = sound.settled e a was in
        let there = alike e here.0 (other_entry e a was) here.1 in
        (there.0, there.1, there.2 (known states) ∙ here.2);
    closed = sound.closed;
  }

module _ {M F Z S : Type 0} (meanings : Meanings M F Z S) (nodes : List (Expression M F Z)) (at : ℕ) (node : Expression M F Z)
    (same_place : (chosen : Chosen) → output_place (set nodes at node) chosen ≡ output_place nodes chosen) where
  same_count : length (rules meanings (set nodes at node)) ≡ length (rules meanings nodes)
  same_count = length-map (set nodes at node) (rule meanings (set nodes at node)) ∙ (length-set nodes at node ∙ sym (length-map nodes (rule meanings nodes)))

  rule_alike : (e : ℕ) (r : Rule ℕ Outcome) → at ≢ e → slice_get (rules meanings nodes) e ≡ Some r → (s : Rule ℕ Outcome) × (slice_get (rules meanings (set nodes at node)) e ≡ Some s) × ((f : ℕ → Option Outcome) → reading f s ≡ reading f r)
  rule_alike e r other is =
      let found = mapped_at (rule meanings nodes) nodes e r (slice_get nodes e) refl (sym (slice_get-map (rule meanings nodes) nodes e) ∙ is) in (
        rule meanings (set nodes at node) found.0,
        slice_get-map (rule meanings (set nodes at node)) (set nodes at node) e ∙ ap (option_map (rule meanings (set nodes at node))) (get_set_other nodes at e node other ∙ found.1),
        λ f. same_rule meanings nodes (set nodes at node) same_place f found.0 ∙ ap (reading f) found.2,
      )

  -- where the answer of an expression is forgotten with all others, or was not known, the rest is right
  -- once it is replaced
  pub values_changed : (old new : List (State Outcome)) → IsRemembered (rules meanings nodes) old → IsForgotten at old new → IsRemembered (rules meanings (set nodes at node)) new
  values_changed old new was (inl none) = subst (IsRemembered (rules meanings (set nodes at node))) (sym none) (none_remembered (rules meanings (set nodes at node)))
  values_changed old new was (inr kept) =
      subst (IsRemembered (rules meanings (set nodes at node))) (sym kept.0)
      (omega (arith, was.0, same_count), sound_changed (rules meanings nodes) (rules meanings (set nodes at node)) same_count at old kept.1 was.1 rule_alike)

module _ {M F Z S : Type 0} (meanings : Meanings M F Z S) (nodes : List (Expression M F Z)) (at : ℕ) (before after : List (State Outcome)) (was : IsRemembered (rules meanings nodes) before) (forgotten : IsForgotten at before after) where
  -- so where a property is changed
  pub values_set : (change : Change) (new : List (Expression M F Z)) (done : Unit {0}) → AreChanged change nodes at new (Ok done) → IsRemembered (rules meanings new) after
  values_set change new done made =
      let exist = λ (chosen : Chosen). places_changed change nodes (set nodes at (OfProperty (changed change made.0))) at (Ok done) (made.0, made.1, refl) chosen in
      subst (λ table. IsRemembered (rules meanings table) after) (sym made.2) (values_changed meanings nodes at (OfProperty (changed change made.0)) exist before after was forgotten)

  -- and where an output is declared
  pub values_declared : (chosen : Chosen) (source : ℕ) → output_place nodes chosen ≡ Some at → IsRemembered (rules meanings (set nodes at (OfOutput (record { chosen = chosen; declared = Some source })))) after
  values_declared chosen source exists =
      values_changed meanings nodes at (OfOutput (record { chosen = chosen; declared = Some source })) (places_declared nodes at chosen (Some source) exists) before after was forgotten
