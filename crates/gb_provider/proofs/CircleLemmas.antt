-- Entries that wait for one another are never answered; circles by the indexes of their entries.
use Rattle.std.proofs.Common.{◌≡◌, ◌≢◌, ℕ, zero, suc, ◌+◌, ◌-◌, ◌<◌, List, length, refl, sym, ◌∙◌, ap, arith}
use Rattle.std.proofs.lemmas.Option.{slice_get-get_or}
use Rattle.std.specs.Prelude.{Option, Some, None, slice_get, slice_index}
use Rattle.gb_provider.specs.Circle.{IsCircle, awaited_after}
use Rattle.gb_provider.specs.Rounds.{Rule, reading, settled, awaited, and_then, answer_after, answer, next_awaited}
use Rattle.gb_provider.specs.declared.evaluation.Reading.TheVariants.{Settles}
use Rattle.gb_provider.specs.Search.{WaitsFor}
use Rattle.gb_provider.proofs.RoundsLemmas.{Extends, reading_waits, reading_still_waits, reading_kept, answer_found}

module _ {A : Type 0} (rules : List (Rule ℕ A)) (f : ℕ → Option A) (right : Extends f (answer rules)) where
  -- an entry whose rule settles on known answers has that answer
  pub answer_settled : (entry : ℕ) (rule : Rule ℕ A) (a : A) → slice_get rules entry ≡ Some rule → reading f rule ≡ Settles a → answer rules entry ≡ Some a
  answer_settled entry rule a there is =
      let kept = reading_kept f (answer rules) right rule a is in
      (answer_found rules (suc (length rules))).keeps entry a (ap (and_then (λ r. settled (reading (answer rules) r))) there ∙ ap settled kept)

  module _ (node : ℕ → ℕ) (n : ℕ) (waits : (k : ℕ) → k < n → (j : ℕ) × (j < n) × WaitsFor rules f (node k) (node j)) where
    -- entries of which each waits for one of them have no answer after any number of rounds
    pub never : (rounds k : ℕ) → k < n → answer_after rules rounds (node k) ≡ None
    never zero k below = refl
    never (suc rounds) k below =
        let w = waits k below in
        ap (and_then (λ r. settled (reading (answer_after rules rounds) r))) w.2.there
        ∙ reading_still_waits f (answer_after rules rounds) (answer rules) right (answer_found rules rounds) w.2.rule (node w.0) w.2.waits (never rounds w.0 w.1)

    -- and each of them awaits the one that it waits for
    pub awaits : (k j : ℕ) → j < n → WaitsFor rules f (node k) (node j) → next_awaited rules (node k) ≡ Some (node j)
    awaits k j below w =
        ap (and_then (λ r. awaited (reading (answer rules) r))) w.there
        ∙ ap awaited (reading_waits f (answer rules) right w.rule (node j) w.waits (never (length rules) j below))

same_some : (x y : ℕ) → Some x ≡ Some y → x ≡ y
same_some x y e = cc

module _ {A : Type 0} (rules : List (Rule ℕ A)) (entry : ℕ) (circle : List ℕ) where
  -- a circle, by the indexes of its entries
  pub record IsIndexedCircle : Type 0 where
    pub some : 0 < length circle
    pub reached : (steps : ℕ) × (awaited_after rules steps entry ≡ Some (slice_index circle 0))
    pub next : (i : ℕ) → i + 1 < length circle → next_awaited rules (slice_index circle i) ≡ Some (slice_index circle (i + 1))
    pub closed : next_awaited rules (slice_index circle (length circle - 1)) ≡ Some (slice_index circle 0)
    pub different : (i j : ℕ) → i < j → j < length circle → slice_index circle i ≢ slice_index circle j

  at_index : (i : ℕ) → i < length circle → slice_get circle i ≡ Some (slice_index circle i)
  at_index i below = slice_get-get_or circle i 0 below

  pub circle_by_index : IsCircle rules entry circle → IsIndexedCircle
  circle_by_index is =
      let some = is.some in
      record {
        some = some;
        reached = (is.reached.0, is.reached.1 ∙ at_index 0 some);
        next = λ i below. ap (and_then (next_awaited rules)) (sym (at_index i (omega (arith, below)))) ∙ is.next i below ∙ at_index (i + 1) below;
        closed = ap (and_then (next_awaited rules)) (sym (at_index (length circle - 1) (omega (arith, some)))) ∙ is.closed ∙ at_index 0 some;
        different = λ i j less below same. is.different i j less below (at_index i (omega (arith, less, below)) ∙ ap Some same ∙ sym (at_index j below));
      }

  pub circle_of_index : IsIndexedCircle → IsCircle rules entry circle
  circle_of_index is =
      let some = is.some in
      record {
        some = some;
        reached = (is.reached.0, is.reached.1 ∙ sym (at_index 0 some));
        next = λ i below. ap (and_then (next_awaited rules)) (at_index i (omega (arith, below))) ∙ is.next i below ∙ sym (at_index (i + 1) below);
        closed = ap (and_then (next_awaited rules)) (at_index (length circle - 1) (omega (arith, some))) ∙ is.closed ∙ sym (at_index 0 some);
        different = λ i j less below same.
            is.different i j less below
            (same_some (slice_index circle i) (slice_index circle j) (sym (at_index i (omega (arith, less, below))) ∙ same ∙ at_index j below));
      }
