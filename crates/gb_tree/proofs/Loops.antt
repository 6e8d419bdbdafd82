-- Loops over slices, by what is left.
use Rattle.std.proofs.Common.{◌≡◌, ◌<◌, ◌≤◌, ◌+◌, ◌++◌, ℕ, List, [], ◌∷◌, drop, length, get_or, refl, sym, ◌∙◌, ap}
use Rattle.std.proofs.lemmas.List.{at_drop_more, at_drop_all}

-- what is left begins with this element
pub step_here : {X Y : Type 0} (F : List X → Y) (xs : List X) (i : ℕ) (x : X) → i < length xs → x ≡ get_or xs i x → F (drop i xs) ≡ F (x ∷ drop (i + 1) xs)
step_here F xs i x within is = at_drop_more F xs i x within ∙ ap (λ y. F (y ∷ drop (i + 1) xs)) (sym is)

pub with_none : {X : Type 0} (xs : List X) → xs ++ [] ≡ xs
with_none [] = refl
with_none (x ∷ xs) = ap (λ ys. x ∷ ys) (with_none xs)

-- nothing is left of what a loop made
pub all_done : {X Y : Type 0} (F : List X → List Y) (done : List Y) (xs : List X) (i : ℕ) → F [] ≡ [] → length xs ≤ i → done ≡ done ++ F (drop i xs)
all_done F done xs i none past = sym (ap (λ ys. done ++ ys) (at_drop_all F xs i past ∙ none) ∙ with_none done)
