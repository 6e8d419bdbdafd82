-- The reasons of a part of two records; there is none if the part is the same.
use Rattle.std.proofs.Common.{◌≡◌, ◌⊎◌, Bool, true, false, cond, inl, inr, List, [], ◌∷◌, refl, ap, ◌∙◌}
use Rattle.std.specs.Cmp.Lexicographic.{pointwise}
use Rattle.std.specs.List.{AllByRecursion, Contains, flat_map, zip}
use Rattle.gb_reason.specs.Reasons.{part}
use Rattle.gb_reason.specs.declared.reason.Reason.{Reason}
use Rattle.gb_reason.proofs.Lists.{Reported, contains_one, from_pairs, none_of_same, own_pairs, same_pairs}

module _ {X : Type 0} (E : X → X → Bool) (f : X × X → List Reason) (otherwise : Reason) where
  -- a part without a reason is the same
  pub part_same : (G : X → Type 0) → ((x y : X) → G x → G y → E x y ≡ true → f (x, y) ≡ [] → x ≡ y) → (xs ys : List X)
      → AllByRecursion G xs → AllByRecursion G ys → part E f otherwise xs ys ≡ [] → xs ≡ ys
  part_same G same xs ys p q none = by (pointwise E xs ys) refl none
    where
      by : (b : Bool) → pointwise E xs ys ≡ b → cond b (flat_map f (zip xs ys)) (otherwise ∷ []) ≡ [] → xs ≡ ys
      by true e n = same_pairs E f G same xs ys p q e n
      by false e n = absurd (cc)

  -- the same part gives no reason
  pub part_none : ((x : X) → E x x ≡ true) → ((x : X) → f (x, x) ≡ []) → (xs : List X) → part E f otherwise xs xs ≡ []
  part_none own none xs =
      ap (λ b. cond b (flat_map f (zip xs xs)) (otherwise ∷ [])) (own_pairs E own xs) ∙ none_of_same f none xs

  -- the reasons: that they are declared differently, or the reasons of a pair
  pub part_reported : (xs ys : List X) (reason : Reason) → Contains (part E f otherwise xs ys) reason
      → ((otherwise ≡ reason) × (pointwise E xs ys ≡ false)) ⊎ Reported E f xs ys reason
  part_reported xs ys reason h = by (pointwise E xs ys) refl h
    where
      by : (b : Bool) → pointwise E xs ys ≡ b → Contains (cond b (flat_map f (zip xs ys)) (otherwise ∷ [])) reason
          → ((otherwise ≡ reason) × (pointwise E xs ys ≡ false)) ⊎ Reported E f xs ys reason
      by true e c = inr (from_pairs E f xs ys reason e c)
      by false e c = inl (contains_one otherwise reason c, e)
