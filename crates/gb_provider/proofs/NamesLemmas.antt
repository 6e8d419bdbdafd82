-- Names in order.
use Rattle.std.proofs.Common.{◌≡◌, ◌≢◌, ℕ, ◌+◌, ◌<◌, ◌≤◌, List, ◌++◌, length, take, drop, refl, sym, ◌∙◌, ap, subst, arith, inl, inr}
use Rattle.std.proofs.Math.Seq.{take-append-add}
use Rattle.std.proofs.lemmas.Bool.{cases_lt}
use Rattle.std.proofs.lemmas.List.{drop-append-le, length-drop}
use Rattle.std.specs.Ordering.{ordering_reverse}
use Rattle.std.specs.Cmp.{IsTotalOrder, tied_itself}
use Rattle.std.specs.Cmp.Lexicographic.{nat_list_cmp_total, lists_total}
use Rattle.std.specs.FinMap.{slice_cmp-IsAntisymmetric, nat_cmp-IsAntisymmetric}
use Rattle.std.specs.declared.cmp.Ordering.{Ordering}
use Rattle.std.specs.declared.cmp.Ordering.TheVariants.{Less, Equal, Greater}
use Rattle.gb_provider.specs.Names.{IsLeastRound, names_order, round_from}

names_total : IsTotalOrder names_order
names_total = lists_total nat_list_cmp_total

names_tied : (a b : List (List ℕ)) → names_order a b ≡ Equal → a ≡ b
names_tied a b e = slice_cmp-IsAntisymmetric (slice_cmp-IsAntisymmetric nat_cmp-IsAntisymmetric) a b e

-- what does not come before is not after
pub not_before : (a b : List (List ℕ)) (r : Ordering) → names_order a b ≡ r → r ≢ Less → names_order b a ≢ Greater
not_before a b r is other greater =
    by r (names_total.antisymm b a ∙ ap ordering_reverse is) other
  where
    by : (s : Ordering) → names_order b a ≡ ordering_reverse s → s ≢ Less → ⊥
    by Less e separate = separate refl
    by Equal e separate = cc
    by Greater e separate = cc

-- what comes before a least one is less than all
before_least : (a b c : List (List ℕ)) → names_order a b ≡ Less → names_order b c ≢ Greater → names_order a c ≢ Greater
before_least a b c less least = by (names_order b c) refl
  where
    by : (r : Ordering) → names_order b c ≡ r → names_order a c ≢ Greater
    by Less e greater = let chain = names_total.trans a b c less e in cc
    by Equal e greater = let same = names_tied b c e in let here : names_order a c ≡ Less = subst (λ x. names_order a x ≡ Less) same less in cc
    by Greater e greater = least e

least_itself : (a : List (List ℕ)) → names_order a a ≢ Greater
least_itself a greater = let tied = tied_itself names_total a in cc

-- rotations by the positions where they begin
module _ (round : ℕ → List (List ℕ)) (least i : ℕ) (so_far : (k : ℕ) → k < i → names_order (round least) (round k) ≢ Greater) where
  -- a round before the least one is the least one
  pub least_now : names_order (round i) (round least) ≡ Less → (k : ℕ) → k < i + 1 → names_order (round i) (round k) ≢ Greater
  least_now less k below =
      elim (cases_lt k i) [
        | inl before ↦ before_least (round i) (round least) (round k) less (so_far k before)
        | inr past ↦ let same : k ≡ i = omega arith in rw same (least_itself (round i))
      ]

  -- and another leaves it so
  pub least_still : names_order (round least) (round i) ≢ Greater → (k : ℕ) → k < i + 1 → names_order (round least) (round k) ≢ Greater
  least_still other k below =
      elim (cases_lt k i) [
        | inl before ↦ so_far k before
        | inr past ↦ let same : k ≡ i = omega arith in rw same other
      ]

-- names that occur twice in a row contain each of their rotations
pub round_twice : (names : List (List ℕ)) (place : ℕ) → place ≤ length names → take (length names) (drop place (names ++ names)) ≡ round_from names place
round_twice names place within =
    let count : length names ≡ length (drop place names) + place = omega (arith, within, length-drop place names) in
    ap (take (length names)) (drop-append-le place names names within)
    ∙ (ap (λ n. take n (drop place names ++ names)) count ∙ take-append-add (drop place names) names place)

-- of names that occur twice in a row the least rotation is returned
pub reported_round : (names : List (List ℕ)) (place : ℕ) (round : List (List ℕ)) → place ≤ length names → round ≡ take (length names) (drop place (names ++ names))
    → ((k : ℕ) → k < length names → names_order (take (length names) (drop place (names ++ names))) (take (length names) (drop k (names ++ names))) ≢ Greater) → IsLeastRound names round
reported_round names place round within is all = (
  (place, is ∙ round_twice names place within),
  λ k below.
      subst (λ other. names_order round other ≢ Greater) (round_twice names k (omega arith))
      (subst (λ least. names_order least (take (length names) (drop k (names ++ names))) ≢ Greater) (sym is) (all k below)),
)
