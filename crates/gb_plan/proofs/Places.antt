-- Places under outputs: of two roots of one place, one overlaps the other. So disjoint outputs share no
-- place.
use Rattle.std.specs.Prelude.{ℕ, ◌≡◌, ◌⊎◌, true, false, ◌||◌, List, [], ◌∷◌, ◌++◌, length, take, drop, get_or, bytes_eq, nat_eq}
use Rattle.std.specs.List.{starts_with, list_any}
use Rattle.std.specs.Cmp.Lexicographic.{bytes_decides}
use Rattle.std.proofs.Common.{refl, sym, ap, ◌∙◌, inl, inr, take-append-drop}
use Rattle.gb_core.specs.Place.{is_beneath, is_under, overlaps, beneath}
use Rattle.gb_folder.specs.Files.{Place}
use Rattle.gb_plan.specs.declared.task.Output.{Output}
use Rattle.gb_plan.specs.declared.task.TaskDeclaration.{TaskDeclaration}
use Rattle.gb_plan.specs.Task.{is_output_of, output_places}
use Rattle.gb_plan.specs.Graph.{some_overlap}
use Rattle.gb_plan.proofs.Tests.{not_true, none_left, none_right, neither, or_true, any_append, any_map}

abbrev slash : ℕ
slash = 47

-- what starts with a text continues after it
starts_as : (xs needle : List ℕ) → starts_with nat_eq xs needle ≡ true → (rest : List ℕ) × (xs ≡ needle ++ rest)
starts_as xs needle e =
    (drop (length needle) xs, sym (take-append-drop (length needle) xs) ∙ ap (λ prefix. prefix ++ drop (length needle) xs) (sym ((bytes_decides needle (take (length needle) xs)).0 e)))

take_prefix : (needle rest : List ℕ) → take (length needle) (needle ++ rest) ≡ needle
take_prefix [] rest = refl
take_prefix (c ∷ needle) rest = ap (λ xs. c ∷ xs) (take_prefix needle rest)

starts_so : (xs needle rest : List ℕ) → xs ≡ needle ++ rest → starts_with nat_eq xs needle ≡ true
starts_so xs needle rest e = (bytes_decides needle (take (length needle) xs)).1 (sym (ap (take (length needle)) e ∙ take_prefix needle rest))

-- at it, or under it with something after the '/'
abbrev IsIn : Place → Place → Type 0
IsIn place root = (place ≡ root) ⊎ ((rest : List ℕ) × (place ≡ root ++ slash ∷ rest))

grouped : (xs : List ℕ) (c : ℕ) (rest : List ℕ) → (xs ++ c ∷ []) ++ rest ≡ xs ++ c ∷ rest
grouped [] c rest = refl
grouped (x ∷ xs) c rest = ap (λ ys. x ∷ ys) (grouped xs c rest)

under_as : (place root : Place) → is_under place root ≡ true → IsIn place root
under_as place root =
    elim (bytes_eq place root) as (λ b. bytes_eq place root ≡ b → (b || is_beneath place root) ≡ true → IsIn place root) [
      | true ↦ λ e _. inl ((bytes_decides place root).0 e)
      | false ↦ λ _ h. let found = starts_as place (root ++ slash ∷ []) h in inr (found.0, found.1 ∙ grouped root slash found.0)
    ] refl

under_so : (place root : Place) → IsIn place root → is_under place root ≡ true
under_so place root (inl e) = ap (λ b. b || is_beneath place root) ((bytes_decides place root).1 e)
under_so place root (inr found) =
    ap (λ b. bytes_eq place root || b) (starts_so place (root ++ slash ∷ []) found.0 (found.1 ∙ sym (grouped root slash found.0))) ∙ or_true (bytes_eq place root)

same_tail : (x y : ℕ) (xs ys : List ℕ) → x ∷ xs ≡ y ∷ ys → xs ≡ ys
same_tail x y xs ys e = ap (drop 1) e

same_head : (x y : ℕ) (xs ys : List ℕ) → x ∷ xs ≡ y ∷ ys → x ≡ y
same_head x y xs ys e = ap (λ l. get_or l 0 0) e

-- of two roots of one place, one is in the other
comparable : (a b r s : List ℕ) → a ++ slash ∷ r ≡ b ++ slash ∷ s → IsIn a b ⊎ IsIn b a
comparable [] [] r s e = inl (inl refl)
comparable [] (y ∷ b) r s e = inr (inr (b, ap (λ c. c ∷ b) (sym (same_head slash y r (b ++ slash ∷ s) e))))
comparable (x ∷ a) [] r s e = inl (inr (a, ap (λ c. c ∷ a) (same_head x slash (a ++ slash ∷ r) s e)))
comparable (x ∷ a) (y ∷ b) r s e =
    let head = same_head x y (a ++ slash ∷ r) (b ++ slash ∷ s) e in
    longer x y a b head (comparable a b r s (same_tail x y (a ++ slash ∷ r) (b ++ slash ∷ s) e))
  where
    longer_in : (x y : ℕ) (a b : List ℕ) → x ≡ y → IsIn a b → IsIn (x ∷ a) (y ∷ b)
    longer_in x y a b h (inl e) = inl (λ i. h i ∷ e i)
    longer_in x y a b h (inr found) = inr (found.0, λ i. h i ∷ found.1 i)

    longer : (x y : ℕ) (a b : List ℕ) → x ≡ y → IsIn a b ⊎ IsIn b a → IsIn (x ∷ a) (y ∷ b) ⊎ IsIn (y ∷ b) (x ∷ a)
    longer x y a b h (inl e) = inl (longer_in x y a b h e)
    longer x y a b h (inr e) = inr (longer_in y x b a (sym h) e)

both_in : (q a b : Place) → IsIn q a → IsIn q b → IsIn a b ⊎ IsIn b a
both_in q a b (inl e) (inl f) = inl (inl (sym e ∙ f))
both_in q a b (inl e) (inr f) = inl (inr (f.0, sym e ∙ f.1))
both_in q a b (inr e) (inl f) = inr (inr (e.0, sym f ∙ e.1))
both_in q a b (inr e) (inr f) = comparable a b e.0 f.0 (sym e.1 ∙ f.1)

overlap_of : (a b : Place) → IsIn a b ⊎ IsIn b a → overlaps a b ≡ true
overlap_of a b (inl h) = ap (λ c. c || is_under b a) (under_so a b h)
overlap_of a b (inr h) = ap (λ c. is_under a b || c) (under_so b a h) ∙ or_true (is_under a b)

pub under_both : (q a b : Place) → is_under q a ≡ true → is_under q b ≡ true → overlaps a b ≡ true
under_both q a b h g = overlap_of a b (both_in q a b (under_as q a h) (under_as q b g))

-- the place of a path strictly under a root lies under it
pub beneath_under : (place path : Place) → is_under (beneath place path) place ≡ true
beneath_under place [] = under_so place place (inl refl)
beneath_under place (c ∷ path) = under_so (place ++ slash ∷ c ∷ path) place (inr (c ∷ path, refl))

-- ---- Outputs

-- nothing that the place overlaps has a place under both
pub none_under : (q root : Place) (places : List Place) → is_under q root ≡ true → list_any (overlaps root) places ≡ false → list_any (is_under q) places ≡ false
none_under q root [] under e = refl
none_under q root (place ∷ places) under e =
    neither (is_under q place) (list_any (is_under q) places)
    (elim (is_under q place) as (λ b. is_under q place ≡ b → b ≡ false) [
      | true ↦ λ in_place. not_true (sym (none_left (overlaps root place) (list_any (overlaps root) places) e) ∙ under_both q root place under in_place)
      | false ↦ λ _. refl
    ] refl)
    (none_under q root places under (none_right (overlaps root place) (list_any (overlaps root) places) e))

pub separate_places : (q : Place) (xs ys : List Place) → some_overlap (xs ++ ys) ≡ false → list_any (is_under q) xs ≡ true → list_any (is_under q) ys ≡ false
separate_places q [] ys e h = not_true h
separate_places q (x ∷ xs) ys e h =
    elim (is_under q x) as (λ b. is_under q x ≡ b → (b || list_any (is_under q) xs) ≡ true → list_any (is_under q) ys ≡ false) [
      | true ↦ λ under _. none_under q x ys under (none_right (list_any (overlaps x) xs) (list_any (overlaps x) ys) (sym (any_append (overlaps x) xs ys) ∙ none_left (list_any (overlaps x) (xs ++ ys)) (some_overlap (xs ++ ys)) e))
      | false ↦ λ _ h. separate_places q xs ys (none_right (list_any (overlaps x) (xs ++ ys)) (some_overlap (xs ++ ys)) e) h
    ] refl h

pub overlap_tail : (xs ys : List Place) → some_overlap (xs ++ ys) ≡ false → some_overlap ys ≡ false
overlap_tail [] ys e = e
overlap_tail (x ∷ xs) ys e = overlap_tail xs ys (none_right (list_any (overlaps x) (xs ++ ys)) (some_overlap (xs ++ ys)) e)

pub out_of : (task : TaskDeclaration) (q : Place) → is_output_of task q ≡ list_any (is_under q) (output_places task)
out_of task q = sym (any_map (is_under q) (λ (output : Output). output.place) task.outputs)
