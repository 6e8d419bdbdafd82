-- On a circle each name occurs once, so its entries have distinct numbers in the whole.
use Rattle.std.proofs.Common.{◌≡◌, ℕ, zero, suc, ◌+◌, ◌-◌, ◌<◌, Bool, true, false, List, length, refl, sym, ap, ◌∙◌, arith, inl, inr}
use Rattle.std.proofs.lemmas.Bool.{cases_lt}
use Rattle.std.specs.Prelude.{Some, slice_get, slice_index, ◌⊎◌}
use Rattle.gb_provider.proofs.CircleLemmas.{IsIndexedCircle, circle_by_index}
use Rattle.gb_provider.specs.Meanings.{Meanings}
use Rattle.gb_provider.specs.Rounds.{next_awaited}
use Rattle.gb_provider.specs.Rules.{rules}
use Rattle.gb_provider.specs.declared.expression.Expression.{Expression}
use Rattle.gb_declare.specs.Circles.{AreDistinct, AreOrdered, CirclesAreDistinct, is_named}
use Rattle.gb_declare.specs.Partly.{IsPartOf}
use Rattle.gb_declare.proofs.CircleLemmas.{next_there}

same_next : (a b : ℕ) → Some a ≡ Some b → a ≡ b
same_next a b e = cc

module _ {M F Z S : Type 0} (meanings : Meanings M F Z S) (number : ℕ → ℕ) (part whole : List (Expression M F Z)) (is_part : IsPartOf number part whole) (ordered : AreOrdered meanings number part)
    (entry : ℕ) (circle : List ℕ) (is : IsIndexedCircle (rules meanings part) entry circle) where
  -- the index after one, cyclically
  Next : ℕ → Type 0
  Next i = (j : ℕ) × (j < length circle) × (next_awaited (rules meanings part) (slice_index circle i) ≡ Some (slice_index circle j)) × ((j ≡ i + 1) ⊎ ((j ≡ 0) × (i + 1 ≡ length circle)))

  next_index : (i : ℕ) → i < length circle → Next i
  unfolding Next
  next_index i below =
      elim (cases_lt (i + 1) (length circle)) [
        | inl more ↦ (i + 1, more, is.next i more, inl refl)
        | inr past ↦
            let last : i ≡ length circle - 1 = omega (arith, below, past) in
            (0, is.some, ap (λ n. next_awaited (rules meanings part) (slice_index circle n)) last ∙ is.closed, inr (refl, omega (arith, below, past)))
      ]

  same_index : (i j : ℕ) → i < length circle → j < length circle → slice_index circle i ≡ slice_index circle j → i ≡ j
  same_index i j bi bj same =
      elim (cases_lt i j) [
        | inl less ↦ absurd (is.different i j less bj same)
        | inr ge ↦
            elim (cases_lt j i) [
              | inl less ↦ absurd (is.different j i less bi (sym same))
              | inr le ↦ omega (arith, ge, le)
            ]
      ]

  -- indexes with the same next one
  same_before : (i j a b : ℕ) → ((a ≡ i + 1) ⊎ ((a ≡ 0) × (i + 1 ≡ length circle))) → ((b ≡ j + 1) ⊎ ((b ≡ 0) × (j + 1 ≡ length circle))) → a ≡ b → i ≡ j
  same_before i j a b (inl x) (inl y) same = omega (arith, x, y, same)
  same_before i j a b (inl x) (inr y) same = let y0 = y.0 in absurd (omega (arith, x, y0, same))
  same_before i j a b (inr x) (inl y) same = let x0 = x.0 in absurd (omega (arith, x0, y, same))
  same_before i j a b (inr x) (inr y) same = let x1 = x.1 in let y1 = y.1 in omega (arith, x1, y1)

  Together : ℕ → Type 0
  Together n = (i j : ℕ) → slice_index circle i < n → i < length circle → j < length circle → number (slice_index circle i) ≡ number (slice_index circle j) → slice_index circle i ≡ slice_index circle j

  -- the same of the next two, where the first has no name
  next_entries : (n i k l : ℕ) → Together n → slice_index circle i < suc n → k < length circle → l < length circle
      → next_awaited (rules meanings part) (slice_index circle i) ≡ Some (slice_index circle k) → is_named (slice_get part (slice_index circle i)) ≡ false
      → number (slice_index circle k) ≡ number (slice_index circle l) → (b : Bool) → is_named (slice_get part (slice_index circle k)) ≡ b → slice_index circle k ≡ slice_index circle l
  unfolding Next Together
  next_entries n i k l ih less bk bl awaits unnamed same true named =
      let a = next_index k bk in
      let b = next_index l bl in
      ordered.once (slice_index circle k) (slice_index circle l) (slice_index circle a.0) (slice_index circle b.0) a.2 b.2 named same
  next_entries n i k l ih less bk bl awaits unnamed same false named =
      let falls = ordered.falls (slice_index circle i) (slice_index circle k) awaits unnamed named in
      ih k l (omega (arith, falls, less)) bk bl same

  together_at : (n i j : ℕ) → Together n → slice_index circle i < suc n → i < length circle → j < length circle → number (slice_index circle i) ≡ number (slice_index circle j)
      → (b : Bool) → is_named (slice_get part (slice_index circle i)) ≡ b → slice_index circle i ≡ slice_index circle j
  unfolding Next Together
  together_at n i j ih less bi bj same true named =
      let a = next_index i bi in
      let b = next_index j bj in
      ordered.once (slice_index circle i) (slice_index circle j) (slice_index circle a.0) (slice_index circle b.0) a.2 b.2 named same
  together_at n i j ih less bi bj same false named =
      let a = next_index i bi in
      let b = next_index j bj in
      let left = next_there meanings number part whole is_part (slice_index circle i) (slice_index circle a.0) a.2 in
      let right = next_there meanings number part whole is_part (slice_index circle j) (slice_index circle b.0) b.2 in
      let numbers = same_next (number (slice_index circle a.0)) (number (slice_index circle b.0)) (sym left ∙ ap (next_awaited (rules meanings whole)) same ∙ right) in
      let entries = next_entries n i a.0 b.0 ih less a.1 b.1 a.2 named numbers (is_named (slice_get part (slice_index circle a.0))) refl in
      ap (slice_index circle) (same_before i j a.0 b.0 a.3 b.3 (same_index a.0 b.0 a.1 b.1 entries))

  -- entries with the same number in the whole are the same
  together : (n : ℕ) → Together n
  unfolding Together
  together zero i j less bi bj same = absurd (omega (arith, less))
  together (suc n) i j less bi bj same = together_at n i j (together n) less bi bj same (is_named (slice_get part (slice_index circle i))) refl

  pub distinct_on_circle : AreDistinct number circle
  unfolding Together
  distinct_on_circle i j less below same = is.different i j less below (together (suc (slice_index circle i)) i j (omega arith) (omega (arith, less, below)) below same)

pub circles_are_distinct : {M F Z S : Type 0} (meanings : Meanings M F Z S) → CirclesAreDistinct meanings
circles_are_distinct meanings number part whole is_part ordered entry circle is i j less below same =
    distinct_on_circle meanings number part whole is_part ordered entry circle (circle_by_index (rules meanings part) entry circle is) i j less below same
