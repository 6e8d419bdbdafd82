-- What an evaluation step of an expression implies for a search.
use Rattle.std.proofs.Common.{◌≡◌, ◌≢◌, ℕ, ◌<◌, List, length, refl, sym, ◌∙◌, ap, get_or}
use Rattle.std.specs.Prelude.{Option, Some, None, slice_get, option_map}
use Rattle.std.proofs.lemmas.Option.{slice_get-map, slice_get_read, slice_get-get_or}
use Rattle.std.proofs.lemmas.List.{length-map}
use Rattle.gb_provider.specs.declared.expression.Expression as expressions
use Rattle.gb_provider.specs.declared.evaluation.Reading.{Reading}
use Rattle.gb_provider.specs.declared.evaluation.Reading.TheVariants.{Settles, Waits}
use Rattle.gb_provider.specs.declared.evaluation.State.{State}
use Rattle.gb_provider.specs.declared.evaluation.State.TheVariants.{New, Open, Known}
use Rattle.gb_provider.specs.Meanings.{Meanings}
use Rattle.gb_provider.specs.Rounds.{Rule, Answers, Reads, reading, after_operand, and_then}
use Rattle.gb_provider.specs.Rules.{rule, rules}
use Rattle.std.proofs.Common.{drop, slice_index}
use Rattle.std.specs.Prelude.{Result, Ok, Err, Vec}
use Rattle.std.specs.declared.alloc.AllocError.{AllocError}
use Rattle.std.specs.declared.alloc.Global.{Global}
use Rattle.gb_provider.specs.Circle.{IsCircle}
use Rattle.gb_provider.specs.Rounds.{answer}
use Rattle.gb_provider.specs.Search.{IsEvaluated, IsLook, IsPathEnd, known, known_answer}

module _ {A : Type 0} (states now : List (State A)) (same : now ≡ states) (found : Reading ℕ A) (r : Rule ℕ A) (reads : found ≡ reading (known now) r) where
  reads_here : reading (known states) r ≡ found
  reads_here = ap (λ s. reading (known s) r) (sym same) ∙ sym reads

  pub settles_is : (o : A) → found ≡ Settles o → reading (known states) r ≡ Settles o
  settles_is o is = reads_here ∙ is

  pub waits_is : (operand : ℕ) → found ≡ Waits operand → reading (known states) r ≡ Waits operand
  waits_is operand is = reads_here ∙ is

module _ {A : Type 0} (rules first : List (Rule ℕ A)) (kept : rules ≡ first) (states now : List (State A)) (same : now ≡ states) (at : ℕ) (found : Reading ℕ A) (look : IsLook rules (known now) at found) where
  -- the rule that was evaluated
  pub looked_there : slice_get first at ≡ Some look.0
  looked_there = ap (λ r. slice_get r at) (sym kept) ∙ look.1

  pub looked_settles : (o : A) → found ≡ Settles o → reading (known states) look.0 ≡ Settles o
  looked_settles o is = settles_is states now same found look.0 look.2 o is

  pub looked_waits : (operand : ℕ) → found ≡ Waits operand → reading (known states) look.0 ≡ Waits operand
  looked_waits operand is = waits_is states now same found look.0 look.2 operand is

module _ {M F Z S : Type 0} (meanings : Meanings M F Z S) (nodes : List (expressions.Expression M F Z)) where
  pub length_rules : length (rules meanings nodes) ≡ length nodes
  length_rules = simp length-map refl

  pub rule_there : (at : ℕ) (node : expressions.Expression M F Z) → at < length nodes → node ≡ get_or nodes at node → slice_get (rules meanings nodes) at ≡ Some (rule meanings nodes node)
  rule_there at node below is =
      slice_get-map (rule meanings nodes) nodes at
      ∙ ap (option_map (rule meanings nodes)) (slice_get_read nodes (length nodes) at node refl below is)

module _ {A : Type 0} (f : ℕ → Option A) where
  none_at : (operand : ℕ) (next : A → Rule ℕ A) (s : ℕ) → ((b : A) → reading f (next b) ≡ Waits s → f s ≡ None) → (o : Option A) → f operand ≡ o → after_operand operand (λ b. reading f (next b)) o ≡ Waits s → f s ≡ None
  none_at operand next s ih None was e = let same : operand ≡ s = cc in ap f (sym same) ∙ was
  none_at operand next s ih (Some b) was e = ih b e

  -- a rule waits for an operand that has no answer
  pub awaited_none : (r : Rule ℕ A) (s : ℕ) → reading f r ≡ Waits s → f s ≡ None
  awaited_none (Answers b) s e = cc
  awaited_none (Reads operand next) s e = none_at operand next s (λ b. awaited_none (next b) s) (f operand) refl e

module _ {A : Type 0} (states : List (State A)) (operand : ℕ) where
  new_at : (state : State A) → slice_get states operand ≡ Some state → known states operand ≡ None → slice_get states operand ≢ Some Open → slice_get states operand ≡ Some New
  new_at New is none shut = is
  new_at Open is none shut = absurd (shut is)
  new_at (Known o) is none shut = let clash : known states operand ≡ Some o = ap (and_then known_answer) is in cc

  -- an entry that is neither known nor open is new
  pub new_state : operand < length states → known states operand ≡ None → slice_get states operand ≢ Some Open → slice_get states operand ≡ Some New
  new_state below none shut = new_at (get_or states operand New) (slice_get-get_or states operand New below) none shut

pub some_known : {A : Type 0} (o : Option A) → o ≢ None → (a : A) × (o ≡ Some a)
some_known None some = absurd (some refl)
some_known (Some a) some = (a, refl)

-- an evaluation that ends with the end of its path, which is a circle
pub circle_reported : {A : Type 0} (rules : List (Rule ℕ A)) (entry : ℕ) (states : List (State A)) (path : List ℕ) (operand : ℕ) (result : Result (Option (Vec ℕ Global)) AllocError) → ((k : ℕ) → k < length path → slice_index path k ≡ operand → (answer rules entry ≡ None) × IsCircle rules entry (drop k path)) → IsPathEnd path operand result → IsEvaluated rules entry states result
circle_reported rules entry states path operand (Ok (Some circle)) all ends =
    let found = all ends.0 ends.1 ends.2 in
    (found.0, rw ends.3 found.1)
circle_reported rules entry states path operand (Ok None) all ends = absurd ends
circle_reported rules entry states path operand (Err failed) all ends = tt
