-- What holds of one property holds of all.
use Rattle.std.specs.Prelude.{ℕ, zero, suc, ◌≡◌, ◌<◌, ◌+◌, Bool, true, List, [], ◌∷◌, ◌++◌, map, length, take, get_or, Some, ◌||◌}
use Rattle.std.specs.List.{AllByRecursion, list_any, flat_map}
use Rattle.std.proofs.Common.{refl, sym, subst, ap, ◌∙◌, arith, append-nil}
use Rattle.std.proofs.lemmas.List.{take_more, map-append}
use Rattle.std.proofs.lemmas.List.Concat.{flat_map-append}
use Rattle.gb_core.specs.Lists.{first_of}
use Rattle.gb_folder.specs.Files.{is_empty}
use Rattle.gb_semantics.proofs.Common.{none_some}
use Rattle.gb_plan.proofs.Tests.{any_append, or_right, not_false}

-- a property of all elements holds of this one
pub all_at : {X : Type 0} (P : X → Type 0) (xs : List X) (i : ℕ) (x : X) → i < length xs → x ≡ get_or xs i x → AllByRecursion P xs → P x
all_at P [] i x within is all = absurd (omega (arith, within))
all_at P (y ∷ ys) zero x within is all = subst P (sym is) all.0
all_at P (y ∷ ys) (suc i) x within is all = all_at P ys i x (omega (arith, within)) is all.1

pub any_of_one : {X Y : Type 0} (p : Y → Bool) (f : X → List Y) (xs : List X) (i : ℕ) (x : X) → i < length xs → x ≡ get_or xs i x → list_any p (f x) ≡ true
    → list_any p (flat_map f xs) ≡ true
any_of_one p f [] i x less is h = absurd (omega (arith, less))
any_of_one p f (y ∷ xs) zero x less is h = any_append p (f y) (flat_map f xs) ∙ ap (λ b. b || list_any p (flat_map f xs)) (ap (λ z. list_any p (f z)) (sym is) ∙ h)
any_of_one p f (y ∷ xs) (suc i) x less is h = any_append p (f y) (flat_map f xs) ∙ or_right (list_any p (f y)) (list_any p (flat_map f xs)) (any_of_one p f xs i x (omega (arith, less)) is h)

-- what the first ones and the next one give
pub one_more : {X Y : Type 0} (f : X → List Y) (xs : List X) (i : ℕ) (x : X) → i < length xs → x ≡ get_or xs i x
    → flat_map f (take (i + 1) xs) ≡ flat_map f (take i xs) ++ f x
one_more f xs i x less is =
    ap (flat_map f) (take_more xs i x less ∙ ap (λ z. take i xs ++ z ∷ []) (sym is))
    ∙ flat_map-append f (take i xs) (x ∷ []) ∙ ap (λ ys. flat_map f (take i xs) ++ ys) (append-nil (f x))

pub map_more : {X Y : Type 0} (f : X → Y) (xs : List X) (i : ℕ) (x : X) → i < length xs → x ≡ get_or xs i x → map f (take (i + 1) xs) ≡ map f (take i xs) ++ f x ∷ []
map_more f xs i x less is = ap (map f) (take_more xs i x less ∙ ap (λ z. take i xs ++ z ∷ []) (sym is)) ∙ map-append f (take i xs) (x ∷ [])

-- the first of all is the first of one, if those before it give none
pub first_of_all : {X Y : Type 0} (f : X → List Y) (xs : List X) (i : ℕ) (x : X) (y : Y) → i < length xs → x ≡ get_or xs i x → flat_map f (take i xs) ≡ []
    → first_of (f x) ≡ Some y → first_of (flat_map f xs) ≡ Some y
first_of_all f [] i x y less is none h = absurd (omega (arith, less))
first_of_all {Y = Y} f (z ∷ xs) zero x y less is none h = following (f z) (flat_map f xs) y (ap (λ w. first_of (f w)) (sym is) ∙ h)
  where
    following : (ys zs : List Y) (y : Y) → first_of ys ≡ Some y → first_of (ys ++ zs) ≡ Some y
    following [] zs y e = none_some e
    following (w ∷ ys) zs y e = e
first_of_all {Y = Y} f (z ∷ xs) (suc i) x y less is none h =
    let parts = empty (f z) (flat_map f (take i xs)) none in
    ap (λ ys. first_of (ys ++ flat_map f xs)) parts.0 ∙ first_of_all f xs i x y (omega (arith, less)) is parts.1 h
  where
    empty : (ys zs : List Y) → ys ++ zs ≡ [] → (ys ≡ []) × (zs ≡ [])
    empty [] zs e = (refl, e)
    empty (w ∷ ys) zs e = not_false (sym (ap is_empty e))

-- the names of what is gathered are those of what was read, and of one more
pub name_more : {X Y K : Type 0} (key : Y → K) (name : X → K) (ys zs : List Y) (y : Y) (xs : List X) (i : ℕ) (x : X) → i < length xs
    → x ≡ get_or xs i x → map key ys ≡ map name (take i xs) → zs ≡ ys ++ y ∷ [] → key y ≡ name x
    → map key zs ≡ map name (take (i + 1) xs)
name_more key name ys zs y xs i x less is named added same =
    ap (map key) added ∙ map-append key ys (y ∷ []) ∙ ap (λ ks. ks ++ key y ∷ []) named
    ∙ ap (λ k. map name (take i xs) ++ k ∷ []) same ∙ sym (map_more name xs i x less is)
