-- Loops over slices, by what is left.
use Rattle.std.proofs.Common.{◌≡◌, ◌<◌, ◌+◌, ℕ, zero, suc, Bool, true, false, ◌||◌, List, [], ◌∷◌, drop, length, get_or, subst, sym, ◌∙◌, ap, refl, arith}
use Rattle.std.proofs.lemmas.List.{at_drop_more}
use Rattle.std.specs.List.{AllByRecursion, list_any}

-- what is left begins with this element
pub step_here : {X Y : Type 0} (F : List X → Y) (xs : List X) (i : ℕ) (x : X) → i < length xs → x ≡ get_or xs i x → F (drop i xs) ≡ F (x ∷ drop (i + 1) xs)
step_here F xs i x within is = at_drop_more F xs i x within ∙ ap (λ y. F (y ∷ drop (i + 1) xs)) (sym is)

-- a property of all remaining elements holds of this one, and of the others
pub all_here : {X : Type 0} (P : X → Type 0) (xs : List X) (i : ℕ) (x : X) → i < length xs → x ≡ get_or xs i x → AllByRecursion P (drop i xs) → P x × AllByRecursion P (drop (i + 1) xs)
all_here P xs i x within is all = subst (λ (ys : List _). AllByRecursion P ys) (step_here (λ ys. ys) xs i x within is) all

or_true : (b : Bool) → (b || true) ≡ true
or_true true = refl
or_true false = refl

-- a test that passes for this element passes for some element
pub any_here : {X : Type 0} (t : X → Bool) (xs : List X) (i : ℕ) (x : X) → i < length xs → x ≡ get_or xs i x → t x ≡ true → list_any t xs ≡ true
any_here t [] i x within is h = absurd (omega (arith, within))
any_here t (y ∷ ys) zero x within is h = ap (λ z. t z || list_any t ys) (sym is) ∙ ap (λ b. b || list_any t ys) h
any_here t (y ∷ ys) (suc i) x within is h = ap (λ b. t y || b) (any_here t ys i x (omega (arith, within)) is h) ∙ or_true (t y)
