-- A sorted row rises.
use Rattle.std.specs.Prelude.{ℕ, ◌≡◌, Bool, false, List, [], get_or, refl}
use Rattle.std.proofs.Common.{sym, ap, ◌∙◌, arith, Less, Equal, Greater, Ordering}
use Rattle.std.proofs.lemmas.Bool.{cases_Bool}
use Rattle.std.proofs.lemmas.List.{get_or-map}
use Rattle.std.proofs.lemmas.Cmp.{then_total, on_total}
use Rattle.std.proofs.lemmas.List.Sorted.{ranks_by, sorted_far}
use Rattle.std.specs.Cmp.{IsStrictWeakOrder, nat_cmp_total}
use Rattle.std.specs.Cmp.Lexicographic.{nat_list_cmp_total}
use Rattle.std.specs.List.Sorted.{IsSortedBy}
use Rattle.std.specs.Ordering.{is_lt, nat_cmp, ordering_then}
use Rattle.gb_core.specs.Lists.{byte_order}
use Rattle.gb_folder.specs.Files.{Place}
use Rattle.gb_graph.proofs.Keeping.{not_both}
use Rattle.gb_graph.specs.declared.places.TaskPlace.{TaskPlace}
use Rattle.gb_graph.specs.Places.{IsRising, by_place, is_before, place_at}
use Rattle.std.proofs.Common.{inl, inr}

abbrev pub places_before : TaskPlace → TaskPlace → Bool
places_before a b = is_lt (by_place a b)

pub places_weak : IsStrictWeakOrder places_before
places_weak = ranks_by (then_total (on_total (λ (at : TaskPlace). at.place) nat_list_cmp_total) (on_total (λ (at : TaskPlace). at.task) nat_cmp_total)) (λ (at : TaskPlace). at)

first_decides : (o u : Ordering) → is_lt (ordering_then o u) ≡ false → is_lt o ≡ false
first_decides Less u h = h
first_decides Equal u h = refl
first_decides Greater u h = refl

pub texts_weak : IsStrictWeakOrder is_before
texts_weak = ranks_by nat_list_cmp_total (λ (text : List ℕ). text)

abbrev no_place : TaskPlace
no_place = record { task = 0; number = 0; place = [] }

pub sorted_rising : (row : List TaskPlace) → IsSortedBy places_before row → IsRising row
sorted_rising row sorted text i j le lt h =
    let x : Place = (get_or row i no_place).place in
    let y : Place = (get_or row j no_place).place in
    let at_i : place_at row i ≡ x = get_or-map (λ (at : TaskPlace). at.place) row i no_place [] (omega (arith, le, lt)) in
    let at_j : place_at row j ≡ y = get_or-map (λ (at : TaskPlace). at.place) row j no_place [] lt in
    let separate : is_before y x ≡ false = first_decides (byte_order y x) (nat_cmp (get_or row j no_place).task (get_or row i no_place).task) (sorted_far places_before places_weak row sorted i j no_place le lt) in
    elim (cases_Bool (is_before (place_at row i) text)) [
      | inl t ↦ t
      | inr f ↦ not_both (ap (λ p. is_before p text) (sym at_j) ∙ h) (texts_weak.chain y x text separate (ap (λ p. is_before p text) (sym at_i) ∙ f))
    ]
