-- Texts that are among others.
use Rattle.std.proofs.Common.{◌≡◌, ℕ, ◌+◌, Bool, true, false, ◌||◌, bytes_eq, sym, if◌then◌else◌, List, [], ◌∷◌, ◌++◌, map, refl, ap, ◌∙◌}
use Rattle.std.specs.Prelude.{length, nat_lt, not, Some, None, cond, position}
use Rattle.std.specs.List.{list_any, prefix_len, position_or_len}
use Rattle.std.proofs.lemmas.List.{length-map}
use Rattle.indexmap.specs.IndexSet.{insert_key}
use Rattle.gb_registry.specs.Projects.{is_among, with_path}

-- ---- By their contents

module _ {X Y : Type 0} (f : X → Y) where
  pub list_any-map : (test : Y → Bool) (xs : List X) → list_any test (map f xs) ≡ list_any (λ x. test (f x)) xs
  list_any-map test [] = refl
  list_any-map test (x ∷ xs) = ap (λ b. test (f x) || b) (list_any-map test xs)

  prefix_len-map : (test : Y → Bool) (xs : List X) → prefix_len test (map f xs) ≡ prefix_len (λ x. test (f x)) xs
  prefix_len-map test [] = refl
  prefix_len-map test (x ∷ xs) = ap (λ n. cond (test (f x)) (1 + n) 0) (prefix_len-map test xs)

  pub position-map : (test : Y → Bool) (xs : List X) → position test (map f xs) ≡ position (λ x. test (f x)) xs
  position-map test xs =
      ap (λ n. cond (nat_lt (position_or_len test (map f xs)) n) (Some (position_or_len test (map f xs))) None) (length-map xs f)
      ∙ ap (λ n. cond (nat_lt n (length xs)) (Some n) None) (prefix_len-map (λ y. not (test y)) xs)

  pub map-append : (xs ys : List X) → map f (xs ++ ys) ≡ map f xs ++ map f ys
  map-append [] ys = refl
  map-append (x ∷ xs) ys = ap (λ l. f x ∷ l) (map-append xs ys)

-- a text that is inserted among strings
pub inserted : {S : Type 0} (text : S → List ℕ) (keys : List S) (key : S)
    → map text (insert_key (λ a b. bytes_eq (text a) (text b)) keys key) ≡ with_path (map text keys) (text key)
inserted text keys key = by (list_any (λ k. bytes_eq (text key) (text k)) keys) refl
  where
    by : (b : Bool) → list_any (λ k. bytes_eq (text key) (text k)) keys ≡ b
        → map text (if b then keys else keys ++ key ∷ []) ≡ (if is_among (map text keys) (text key) then map text keys else map text keys ++ text key ∷ [])
    by true is = sym (ap (λ there. if there then map text keys else map text keys ++ text key ∷ []) (list_any-map text (bytes_eq (text key)) keys ∙ is))
    by false is =
        map-append text keys (key ∷ [])
        ∙ sym (ap (λ there. if there then map text keys else map text keys ++ text key ∷ []) (list_any-map text (bytes_eq (text key)) keys ∙ is))
