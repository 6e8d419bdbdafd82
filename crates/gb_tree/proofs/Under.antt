-- Places at or under a root.
use Rattle.std.proofs.Common.{◌≡◌, ◌⊎◌, inl, inr, ℕ, Bool, true, false, ◌||◌, List, [], ◌∷◌, ◌++◌, drop, length, refl, sym, ◌∙◌, ap, IsTrue}
use Rattle.std.proofs.lemmas.List.{drop_at}
use Rattle.std.specs.Cmp.Lexicographic.{bytes_decides}
use Rattle.std.specs.Prelude.{bytes_eq}
use Rattle.gb_core.specs.Place.{is_beneath, is_under}
use Rattle.gb_core.proofs.BySegments.{begins}

joined : (root rest : List ℕ) → (root ++ 47 ∷ []) ++ rest ≡ root ++ 47 ∷ rest
joined [] rest = refl
joined (c ∷ root) rest = ap (λ xs. c ∷ xs) (joined root rest)

-- a place under a root is the root, or the root, a slash and more
abbrev pub IsUnder : List ℕ → List ℕ → Type 0
IsUnder place root = (place ≡ root) ⊎ ((rest : List ℕ) × (place ≡ root ++ 47 ∷ rest))

pub under_parts : (place root : List ℕ) → IsTrue (is_under place root) → IsUnder place root
under_parts place root h = by (bytes_eq place root) refl h
  where
    by : (b : Bool) → bytes_eq place root ≡ b → IsTrue (b || is_beneath place root) → IsUnder place root
    by true is h = inl ((bytes_decides place root).0 is)
    by false is h = let found = begins place (root ++ 47 ∷ []) h in inr (found.0, found.1 ∙ joined root found.0)

-- a place is under itself
pub own_place : (place : List ℕ) → IsTrue (is_under place place)
own_place place = ap (λ b. b || is_beneath place place) ((bytes_decides place place).1 refl)

-- what follows the root
pub after_root : (place root : List ℕ) → IsUnder place root → (drop (length root) place ≡ []) ⊎ ((rest : List ℕ) × (drop (length root) place ≡ 47 ∷ rest))
after_root place root (inl is) = inl (ap (drop (length root)) (is ∙ sym (with_none root)) ∙ drop_at root [] (length root) refl)
  where
    with_none : (xs : List ℕ) → xs ++ [] ≡ xs
    with_none [] = refl
    with_none (x ∷ xs) = ap (λ ys. x ∷ ys) (with_none xs)
after_root place root (inr found) = inr (found.0, ap (drop (length root)) found.1 ∙ drop_at root (47 ∷ found.0) (length root) refl)

pub has_prefix : (place root : List ℕ) → IsUnder place root → (rest : List ℕ) × (place ≡ root ++ rest)
has_prefix place root (inl is) = ([], is ∙ sym (with_none root))
  where
    with_none : (xs : List ℕ) → xs ++ [] ≡ xs
    with_none [] = refl
    with_none (x ∷ xs) = ap (λ ys. x ∷ ys) (with_none xs)
has_prefix place root (inr found) = (47 ∷ found.0, found.1)
