-- The positions of outputs in expressions that grow.
use Rattle.std.proofs.Common.{◌≡◌, ℕ, zero, suc, ◌+◌, ◌⊎◌, inl, inr, Bool, true, false, cond, List, [], ◌∷◌, ◌++◌, refl, sym, ap, ◌∙◌, Some, None}
use Rattle.std.proofs.lemmas.Iterator.Adapters.{position_from-zero}
use Rattle.std.specs.Cmp.Derive.{both_true}
use Rattle.std.specs.Cmp.Lexicographic.{bytes_decides}
use Rattle.std.specs.List.{position_from}
use Rattle.std.specs.Prelude.{bytes_eq, position, slice_get}
use Rattle.gb_plan.proofs.Tests.{left_of, right_of}
use Rattle.gb_provider.specs.Rules.{is_output}
use Rattle.gb_provider.specs.declared.expression.Expression.{Expression}
use Rattle.gb_provider.specs.declared.expression.Expression.TheVariants.{Constant, OfProperty, OfOutput, Listed, Mapped, FlatMapped, Zipped, OrElse}
use Rattle.gb_provider.specs.declared.fault.Chosen.{Chosen}
use Rattle.gb_declare.specs.Circles.{is_named}
use Rattle.gb_declare.specs.Partly.{renamed}
use Rattle.gb_project.specs.Stage.{output_of}

module _ {X : Type 0} (p : X → Bool) where
  from_stays : (i : ℕ) (xs ys : List X) (j : ℕ) → position_from p i xs ≡ Some j → position_from p i (xs ++ ys) ≡ Some j
  from_stays i [] ys j is = absurd (cc)
  from_stays i (x ∷ xs) ys j is =
      elim (p x) as (λ b. cond b (Some i) (position_from p (i + 1) xs) ≡ Some j → cond b (Some i) (position_from p (i + 1) (xs ++ ys)) ≡ Some j) [
        | true ↦ λ here. here
        | false ↦ λ later. from_stays (i + 1) xs ys j later
      ] is

  -- an element that passes was present before, or is one of those after
  from_either : (i : ℕ) (xs ys : List X) (j : ℕ) → position_from p i (xs ++ ys) ≡ Some j
      → (position_from p i xs ≡ Some j) ⊎ ((k : ℕ) × (y : X) × (slice_get ys k ≡ Some y) × (p y ≡ true))
  from_either i [] [] j is = absurd (cc)
  from_either i [] (y ∷ ys) j is =
      elim (p y) as (λ b. p y ≡ b → cond b (Some i) (position_from p (i + 1) ys) ≡ Some j → (None ≡ Some j) ⊎ ((k : ℕ) × (z : X) × (slice_get (y ∷ ys) k ≡ Some z) × (p z ≡ true))) [
        | true ↦ λ passes here. inr (0, y, refl, passes)
        | false ↦ λ fails later.
            elim (from_either (i + 1) [] ys j later) [
              | inl none ↦ absurd (cc)
              | inr found ↦ inr (suc found.0, found.1, found.2, found.3)
            ]
      ] refl is
  from_either i (x ∷ xs) ys j is =
      elim (p x) as (λ b. cond b (Some i) (position_from p (i + 1) (xs ++ ys)) ≡ Some j → (cond b (Some i) (position_from p (i + 1) xs) ≡ Some j) ⊎ ((k : ℕ) × (y : X) × (slice_get ys k ≡ Some y) × (p y ≡ true))) [
        | true ↦ λ here. inl here
        | false ↦ λ later. from_either (i + 1) xs ys j later
      ] is

  -- an element that passes has a position
  from_some : (i : ℕ) (xs : List X) (k : ℕ) (x : X) → slice_get xs k ≡ Some x → p x ≡ true → (j : ℕ) × (position_from p i xs ≡ Some j)
  from_some i [] k x is passes = absurd (cc)
  from_some i (y ∷ xs) zero x is passes =
      let same : y ≡ x = cc in
      (i, ap (λ b. cond b (Some i) (position_from p (i + 1) xs)) (ap p same ∙ passes))
  from_some i (y ∷ xs) (suc k) x is passes =
      let rest = from_some (i + 1) xs k x is passes in
      elim (p y) as (λ b. (j : ℕ) × (cond b (Some i) (position_from p (i + 1) xs) ≡ Some j)) [
        | true ↦ (i, refl)
        | false ↦ rest
      ]

module _ {X : Type 0} (p : X → Bool) where
  pub place_stays : (xs ys : List X) (j : ℕ) → position p xs ≡ Some j → position p (xs ++ ys) ≡ Some j
  place_stays xs ys j is = position_from-zero p (xs ++ ys) ∙ from_stays p 0 xs ys j (sym (position_from-zero p xs) ∙ is)

  pub place_either : (xs ys : List X) (j : ℕ) → position p (xs ++ ys) ≡ Some j
      → (position p xs ≡ Some j) ⊎ ((k : ℕ) × (y : X) × (slice_get ys k ≡ Some y) × (p y ≡ true))
  place_either xs ys j is =
      elim (from_either p 0 xs ys j (sym (position_from-zero p (xs ++ ys)) ∙ is)) [
        | inl before ↦ inl (position_from-zero p xs ∙ before)
        | inr following ↦ inr following
      ]

  pub place_some : (xs : List X) (k : ℕ) (x : X) → slice_get xs k ≡ Some x → p x ≡ true → (j : ℕ) × (position p xs ≡ Some j)
  place_some xs k x is passes = let found = from_some p 0 xs k x is passes in (found.0, position_from-zero p xs ∙ found.1)

module _ {M F Z : Type 0} where
  pub named_renamed : (number : ℕ → ℕ) (e : Expression M F Z) → is_named (Some (renamed number e)) ≡ is_named (Some e)
  named_renamed number (Constant value) = refl
  named_renamed number (OfProperty property) = refl
  named_renamed number (OfOutput output) = refl
  named_renamed number (Listed operands) = refl
  named_renamed number (Mapped from call) = refl
  named_renamed number (FlatMapped from call) = refl
  named_renamed number (Zipped left right call) = refl
  named_renamed number (OrElse left right) = refl

  pub output_renamed : (number : ℕ → ℕ) (chosen : Chosen) (e : Expression M F Z) → is_output chosen (renamed number e) ≡ is_output chosen e
  output_renamed number chosen (Constant value) = refl
  output_renamed number chosen (OfProperty property) = refl
  output_renamed number chosen (OfOutput output) = refl
  output_renamed number chosen (Listed operands) = refl
  output_renamed number chosen (Mapped from call) = refl
  output_renamed number chosen (FlatMapped from call) = refl
  output_renamed number chosen (Zipped left right call) = refl
  output_renamed number chosen (OrElse left right) = refl

  -- an output has a name
  pub output_named : (chosen : Chosen) (e : Expression M F Z) → is_output chosen e ≡ true → is_named (Some e) ≡ true
  output_named chosen (Constant value) is = absurd (cc)
  output_named chosen (OfProperty property) is = absurd (cc)
  output_named chosen (OfOutput output) is = refl
  output_named chosen (Listed operands) is = absurd (cc)
  output_named chosen (Mapped from call) is = absurd (cc)
  output_named chosen (FlatMapped from call) is = absurd (cc)
  output_named chosen (Zipped left right call) is = absurd (cc)
  output_named chosen (OrElse left right) is = absurd (cc)

module _ (M F Z : Type 0) where
  pub output_itself : (chosen : Chosen) (place : ℕ) → is_output chosen (output_of {M = M} {F = F} {Z = Z} chosen place) ≡ true
  output_itself chosen place = both_true ((bytes_decides chosen.task chosen.task).1 refl) ((bytes_decides chosen.output chosen.output).1 refl)

  pub output_same : (chosen other : Chosen) (place : ℕ) → is_output other (output_of {M = M} {F = F} {Z = Z} chosen place) ≡ true → chosen ≡ other
  output_same chosen other place is =
      let tasks : chosen.task ≡ other.task = (bytes_decides chosen.task other.task).0 (left_of (bytes_eq chosen.task other.task) (bytes_eq chosen.output other.output) is) in
      let outputs : chosen.output ≡ other.output = (bytes_decides chosen.output other.output).0 (right_of (bytes_eq chosen.task other.task) (bytes_eq chosen.output other.output) is) in
      ap (λ t. record { task = t; output = chosen.output }) tasks ∙ ap (λ o. record { task = other.task; output = o }) outputs

pub never : {X : Type 0} (x : X) → None ≡ Some x → ⊥
never x e = cc

pub some_same : {X : Type 0} (x y : X) → Some x ≡ Some y → x ≡ y
some_same x y e = cc

-- the one of a list of one
pub alone : {X : Type 0} (x y : X) (k : ℕ) → slice_get (x ∷ []) k ≡ Some y → x ≡ y
alone x y zero is = cc
alone x y (suc k) is = absurd (cc)
