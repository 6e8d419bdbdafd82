-- Rows of places, as they are made and sorted.
use Rattle.std.specs.Prelude.{ℕ, zero, suc, ◌≡◌, ◌<◌, ◌+◌, List, [], ◌∷◌, ◌++◌, length, get_or, drop, refl}
use Rattle.std.proofs.Common.{sym, ap, ◌∙◌, arith}
use Rattle.std.proofs.lemmas.List.{get_or-map}
use Rattle.gb_folder.specs.Files.{Place}
use Rattle.gb_graph.specs.declared.places.TaskPlace.{TaskPlace}
use Rattle.gb_graph.specs.Places.{place_at, with_places}

pub place_found : (row : List TaskPlace) (i : ℕ) (d : TaskPlace) → i < length row → place_at row i ≡ (get_or row i d).place
place_found row i d lt = get_or-map (λ (at : TaskPlace). at.place) row i d [] lt

drop_step : {X : Type 0} (xs : List X) (i : ℕ) (x : X) → i < length xs → x ≡ get_or xs i x → drop i xs ≡ x ∷ drop (suc i) xs
drop_step [] i x lt is = absurd (omega (arith, lt))
drop_step (y ∷ ys) zero x lt is = ap (λ v. v ∷ ys) (sym is)
drop_step (y ∷ ys) (suc i) x lt is = drop_step ys i x (omega (arith, lt)) is

pub drop_next : {X : Type 0} (xs : List X) (i : ℕ) (x : X) → i < length xs → x ≡ get_or xs i x → drop i xs ≡ x ∷ drop (i + 1) xs
drop_next xs i x lt is = drop_step xs i x lt is ∙ ap (λ n. x ∷ drop n xs) (let e : suc i ≡ i + 1 = omega arith in e)

pub with_append : (row : List TaskPlace) (xs ys : List (ℕ × Place)) → with_places row (xs ++ ys) ≡ with_places (with_places row xs) ys
with_append row [] ys = refl
with_append row (x ∷ xs) ys = with_append (row ++ record { task = x.0; number = length row; place = x.1 } ∷ []) xs ys

-- the row, with more places, and then the rest
pub placed_on : (row new : List TaskPlace) (more rest whole : List (ℕ × Place)) → whole ≡ more ++ rest → new ≡ with_places row more → with_places new rest ≡ with_places row whole
placed_on row new more rest whole is made =
    ap (λ r. with_places r rest) made ∙ (sym (with_append row more rest) ∙ ap (with_places row) (sym is))
