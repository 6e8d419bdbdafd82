-- What an entry of a part awaits, it awaits in the whole.
use Rattle.std.proofs.Common.{◌≡◌, ℕ, zero, suc, List, length, refl, sym, ap, ◌∙◌, inl, inr}
use Rattle.std.specs.Prelude.{Option, Some, None, slice_get}
use Rattle.gb_provider.proofs.RoundsLemmas.{after_is}
use Rattle.gb_provider.specs.Circle.{awaited_after}
use Rattle.gb_provider.specs.Rounds.{Rule, Answers, Reads, after_operand, reading, awaited, and_then, answer, next_awaited}
use Rattle.gb_provider.specs.declared.evaluation.Reading.{Reading}
use Rattle.gb_provider.specs.declared.evaluation.Reading.TheVariants.{Settles, Waits}
use Rattle.gb_declare.specs.Parts.{IsLike, ArePart}
use Rattle.gb_declare.proofs.PartLemmas.{part_answers, part_is_endless}

module _ {A : Type 0} where
  waits_is : (r : Reading ℕ A) (operand : ℕ) → awaited r ≡ Some operand → r ≡ Waits operand
  waits_is (Settles a) operand e = cc
  waits_is (Waits s) operand e = cc

module _ {A : Type 0} (number : ℕ → ℕ) (Pending : A → Type 0) (part whole : List (Rule ℕ A)) (are : ArePart number Pending part whole) where
  f : ℕ → Option A
  f = answer part

  g : ℕ → Option A
  g = answer whole

  awaits_at : (operand operand' : ℕ) (next next' : A → Rule ℕ A) (s : ℕ) → IsLike (length part) number Pending (Reads operand next) (Reads operand' next')
      → ((b : A) → IsLike (length part) number Pending (next b) (next' b) → reading (answer part) (next b) ≡ Waits s → reading (answer whole) (next' b) ≡ Waits (number s))
      → (o : Option A) → answer part operand ≡ o → after_operand operand (λ b. reading (answer part) (next b)) o ≡ Waits s
      → after_operand operand' (λ b. reading (answer whole) (next' b)) (answer whole operand') ≡ Waits (number s)
  awaits_at operand operand' next next' s like ih None was e =
      let same : operand ≡ s = cc in
      let none = part_is_endless number Pending part whole are operand like.0 was in
      after_is operand' (λ c. reading (answer whole) (next' c)) (answer whole operand') None (ap (answer whole) like.1 ∙ none) ∙ ap Waits (like.1 ∙ ap number same)
  awaits_at operand operand' next next' s like ih (Some b) was e =
      let out : Pending b → ⊥ = λ pending. (let clash : ◌≡◌ {A = Reading ℕ A} (Settles b) (Waits s) = sym (ap (reading (answer part)) (like.2 b pending)) ∙ e in cc) in
      elim (part_answers number Pending part whole are operand b was) [
        | inl pending ↦ absurd (out pending)
        | inr known ↦
            elim (like.3 b) [
              | inl pending ↦ absurd (out pending)
              | inr on ↦ after_is operand' (λ c. reading (answer whole) (next' c)) (answer whole operand') (Some b) (ap (answer whole) like.1 ∙ known) ∙ ih b on e
            ]
      ]

  -- what a rule waits for
  awaits_alike : (rule other : Rule ℕ A) (s : ℕ) → IsLike (length part) number Pending rule other → reading (answer part) rule ≡ Waits s → reading (answer whole) other ≡ Waits (number s)
  awaits_alike (Answers b) other s like e = cc
  awaits_alike (Reads operand next) (Answers b) s like e = absurd like
  awaits_alike (Reads operand next) (Reads operand' next') s like e =
      awaits_at operand operand' next next' s like (λ b on. awaits_alike (next b) (next' b) s on) (answer part operand) refl e

  next_at : (entry s : ℕ) (o : Option (Rule ℕ A)) → slice_get part entry ≡ o → and_then (λ rule. awaited (reading (answer part) rule)) o ≡ Some s → next_awaited whole (number entry) ≡ Some (number s)
  next_at entry s None is e = cc
  next_at entry s (Some rule) is e =
      let found = are.like entry rule is in
      let waits = awaits_alike rule found.0 s found.2 (waits_is (reading (answer part) rule) s e) in
      ap (and_then (λ r. awaited (reading (answer whole) r))) found.1 ∙ ap awaited waits

  -- what an entry awaits
  pub next_in_part : (entry s : ℕ) → next_awaited part entry ≡ Some s → next_awaited whole (number entry) ≡ Some (number s)
  next_in_part entry s e = next_at entry s (slice_get part entry) refl e

  step_at : (steps entry x : ℕ) (o : Option ℕ) → awaited_after part steps entry ≡ o → ((y : ℕ) → o ≡ Some y → awaited_after whole steps (number entry) ≡ Some (number y))
      → and_then (next_awaited part) o ≡ Some x → and_then (next_awaited whole) (awaited_after whole steps (number entry)) ≡ Some (number x)
  step_at steps entry x None is ih e = cc
  step_at steps entry x (Some y) is ih e = ap (and_then (next_awaited whole)) (ih y refl) ∙ next_in_part y x e

  -- and what it reaches, step by step
  pub after_in_part : (steps entry x : ℕ) → awaited_after part steps entry ≡ Some x → awaited_after whole steps (number entry) ≡ Some (number x)
  after_in_part zero entry x e = let same : entry ≡ x = cc in ap (λ y. Some (number y)) same
  after_in_part (suc steps) entry x e = step_at steps entry x (awaited_after part steps entry) refl (λ y is. after_in_part steps entry y is) e
