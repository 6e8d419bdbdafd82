-- The folder of a project is a place.
use Rattle.std.proofs.Common.{◌≡◌, ℕ, zero, suc, ◌<◌, ◌≤◌, Bool, true, false, not, cond, ◌&&◌, ◌||◌, ◌==◌, List, [], ◌∷◌, ◌++◌, ◌⊎◌, inl, inr, length, map, refl, ap, sym, subst, ◌∙◌, true≢false, arith}
use Rattle.std.specs.Cmp.Lexicographic.{bytes_decides}
use Rattle.std.specs.Prelude.{All, nat_le, bytes_eq, codes, drop}
use Rattle.std.specs.List.{list_all, slice_split, onto_first}
use Rattle.std.proofs.lemmas.Bool.{eqb-true}
use Rattle.std.proofs.lemmas.Bool.Decides.{nat_tests}
use Rattle.gb_core.specs.Name.{is_name, is_name_byte, is_letter}
use Rattle.gb_core.specs.Path.{is_project_path, is_task_path}
use Rattle.gb_core.specs.Place.{is_place, is_printable, is_segment, segments}
use Rattle.gb_core.proofs.TaskPaths.{in_root, left_of, right_of, name_bytes}
use Rattle.gb_core.proofs.Splits.{parts-joined}
use Rattle.std.proofs.lemmas.List.Folds.{list_all-append}
use Rattle.gb_registry.specs.Projects.{folder_text, lineage, lineage_from, slashed}

abbrev parts_of : List ℕ → List (List ℕ)
parts_of text = slice_split (λ b. b == 58) text

-- a byte of a name, or a colon
abbrev is_path_byte : ℕ → Bool
is_path_byte b = is_name_byte b || (b == 58)

module _ (b : ℕ) (good : is_path_byte b ≡ true) where
  below_128 : b < 128
  below_128 = grind (arith, nat_tests)

  printable : is_printable (slashed b) ≡ true
  printable = grind (arith, nat_tests)

  parts_alike : (slashed b == 47) ≡ (b == 58)
  parts_alike = grind (arith, nat_tests)

letter_alone : (b : ℕ) → is_letter b ≡ true → (b == 46) ≡ false
letter_alone b h = grind (arith, nat_tests)

letter_is_name_byte : (b : ℕ) → is_letter b ≡ true → is_name_byte b ≡ true
letter_is_name_byte b h = ap (λ x. x || (nat_le 48 b && nat_le b 57) || (b == 95) || (b == 45)) h

both : (a b : Bool) → a ≡ true → b ≡ true → (a && b) ≡ true
both a b h i = ap (λ x. x && b) h ∙ i

names_of_bytes : (name : List ℕ) → is_name name ≡ true → list_all is_name_byte name ≡ true
names_of_bytes [] h = refl
names_of_bytes (c ∷ text) h =
    let bytes = name_bytes c text h in
    both (is_name_byte c) (list_all is_name_byte text) (letter_is_name_byte c bytes.0) bytes.1

segment_of_name : (name : List ℕ) → is_name name ≡ true → is_segment name ≡ true
segment_of_name [] h = absurd (true≢false (sym h))
segment_of_name (c ∷ text) h =
    ap (λ b. not (b && bytes_eq text []) && not (b && bytes_eq text (46 ∷ []))) (letter_alone c (name_bytes c text h).0)

or_right : (a b : Bool) → b ≡ true → (a || b) ≡ true
or_right true b h = refl
or_right false b h = h

all_such : {X : Type 0} (p q : X → Bool) → ((x : X) → p x ≡ true → q x ≡ true) → (xs : List X) → list_all p xs ≡ true → list_all q xs ≡ true
all_such p q such [] h = refl
all_such p q such (x ∷ xs) h =
    both (q x) (list_all q xs) (such x (left_of (p x) (list_all p xs) h)) (all_such p q such xs (right_of (p x) (list_all p xs) h))

first_of_bytes : (c : ℕ) (parts : List (List ℕ)) → list_all (list_all is_name_byte) (onto_first c parts) ≡ true
    → (is_name_byte c ≡ true)
first_of_bytes c [] h = left_of (is_name_byte c) true (left_of (is_name_byte c && true) true h)
first_of_bytes c (part ∷ parts) h =
    left_of (is_name_byte c) (list_all is_name_byte part) (left_of (is_name_byte c && list_all is_name_byte part) (list_all (list_all is_name_byte) parts) h)

rest_of_bytes : (c : ℕ) (parts : List (List ℕ)) → list_all (list_all is_name_byte) (onto_first c parts) ≡ true
    → list_all (list_all is_name_byte) parts ≡ true
rest_of_bytes c [] h = refl
rest_of_bytes c (part ∷ parts) h =
    let prefix = left_of (is_name_byte c && list_all is_name_byte part) (list_all (list_all is_name_byte) parts) h in
    both (list_all is_name_byte part) (list_all (list_all is_name_byte) parts)
    (right_of (is_name_byte c) (list_all is_name_byte part) prefix)
    (right_of (is_name_byte c && list_all is_name_byte part) (list_all (list_all is_name_byte) parts) h)

path_bytes : (text : List ℕ) → list_all (list_all is_name_byte) (parts_of text) ≡ true → list_all is_path_byte text ≡ true
path_bytes [] h = refl
path_bytes (c ∷ text) h = by (c == 58) refl h (λ good. path_bytes text good)
  where
    by : (b : Bool) → (c == 58) ≡ b → list_all (list_all is_name_byte) (cond b ([] ∷ parts_of text) (onto_first c (parts_of text))) ≡ true
        → (list_all (list_all is_name_byte) (parts_of text) ≡ true → list_all is_path_byte text ≡ true)
        → (is_path_byte c && list_all is_path_byte text) ≡ true
    by true is g rest = both (is_path_byte c) (list_all is_path_byte text) (or_right (is_name_byte c) (c == 58) is) (rest g)
    by false is g rest =
        both (is_path_byte c) (list_all is_path_byte text)
        (ap (λ b. b || (c == 58)) (first_of_bytes c (parts_of text) g))
        (rest (rest_of_bytes c (parts_of text) g))

-- the names after the colons are the segments between the slashes
segments_are_names : (text : List ℕ) → list_all is_path_byte text ≡ true → slice_split (λ b. b == 47) (map slashed text) ≡ parts_of text
segments_are_names [] h = refl
segments_are_names (c ∷ text) h =
    let here = left_of (is_path_byte c) (list_all is_path_byte text) h in
    let rest = segments_are_names text (right_of (is_path_byte c) (list_all is_path_byte text) h) in
    ap (λ b. cond b ([] ∷ slice_split (λ b. b == 47) (map slashed text)) (onto_first (slashed c) (slice_split (λ b. b == 47) (map slashed text)))) (parts_alike c here)
    ∙ ap (λ parts. cond (c == 58) ([] ∷ parts) (onto_first (slashed c) parts)) rest
    ∙ by (c == 58) refl
  where
    by : (b : Bool) → (c == 58) ≡ b → cond b ([] ∷ parts_of text) (onto_first (slashed c) (parts_of text)) ≡ cond b ([] ∷ parts_of text) (onto_first c (parts_of text))
    by true is = refl
    by false is = ap (λ b. onto_first (cond b 47 c) (parts_of text)) is

list_all-map : {X Y : Type 0} (f : X → Y) (p : Y → Bool) (xs : List X) → list_all p (map f xs) ≡ list_all (λ x. p (f x)) xs
list_all-map f p [] = refl
list_all-map f p (x ∷ xs) = ap (λ b. p (f x) && b) (list_all-map f p xs)

names_of_path : (path : List ℕ) → is_task_path path ≡ true → list_all is_name (parts_of (drop 1 path)) ≡ true
names_of_path [] h = absurd (true≢false (sym h))
names_of_path (c ∷ text) h = right_of (c == 58) (list_all is_name (parts_of text)) h

bytes_of_path : (path : List ℕ) → is_task_path path ≡ true → list_all is_path_byte (drop 1 path) ≡ true
bytes_of_path path h = path_bytes (drop 1 path) (all_such is_name (list_all is_name_byte) names_of_bytes (parts_of (drop 1 path)) (names_of_path path h))

fits : (n : ℕ) → n ≤ 896 → nat_le n 1024 ≡ true
fits n h = grind (arith, nat_tests)

pub folder_is_place : (path : List ℕ) → is_task_path path ≡ true → length (folder_text path) ≤ 896 → is_place (folder_text path) ≡ true
folder_is_place path good short =
    let bytes = bytes_of_path path good in
    let shown = list_all-map slashed is_printable (drop 1 path) ∙ all_such is_path_byte (λ b. is_printable (slashed b)) printable (drop 1 path) bytes in
    let parts = ap (list_all is_segment) (segments_are_names (drop 1 path) bytes) ∙ all_such is_name is_segment segment_of_name (parts_of (drop 1 path)) (names_of_path path good) in
    both (nat_le (length (folder_text path)) 1024 && list_all is_printable (folder_text path)) (list_all is_segment (segments (folder_text path)))
    (both (nat_le (length (folder_text path)) 1024) (list_all is_printable (folder_text path)) (fits (length (folder_text path)) short) shown) parts

all_below : (text : List ℕ) → list_all is_path_byte text ≡ true → All (λ b. b < 128) text
all_below [] h k d below = absurd (omega (arith, below))
all_below (c ∷ text) h zero d below = below_128 c (left_of (is_path_byte c) (list_all is_path_byte text) h)
all_below (c ∷ text) h (suc k) d below = all_below text (right_of (is_path_byte c) (list_all is_path_byte text) h) k d (omega (arith, below))

-- a project other than the root has the path of a task
pub names_something : (path : List ℕ) → is_project_path path ≡ true → bytes_eq path (codes ":") ≡ false → is_task_path path ≡ true
names_something path good other = ap (λ b. b || is_task_path path) (sym other) ∙ good

none : All (λ b. b < 128) []
none k d below = absurd (omega (arith, below))

pub project_bytes : (path : List ℕ) → is_project_path path ≡ true → All (λ b. b < 128) (drop 1 path)
project_bytes path good = by (bytes_eq path (codes ":")) refl
  where
    by : (b : Bool) → bytes_eq path (codes ":") ≡ b → All (λ b. b < 128) (drop 1 path)
    by true is = subst (λ p. All (λ b. b < 128) (drop 1 p)) (sym ((bytes_decides path (codes ":")).0 is)) none
    by false is = all_below (drop 1 path) (bytes_of_path path (names_something path good is))

-- the text is empty, or the path of a task
abbrev IsPrefix : List ℕ → Type 0
IsPrefix prefix = (prefix ≡ []) ⊎ (is_task_path prefix ≡ true)

following : (prefix name : List ℕ) → IsPrefix prefix → is_name name ≡ true → is_task_path (prefix ++ 58 ∷ name) ≡ true
following prefix name (inl none) h = subst (λ f. is_task_path (f ++ 58 ∷ name) ≡ true) (sym none) (in_root name h)
following [] name (inr path) h = absurd (true≢false (sym path))
following (c ∷ prefix) name (inr path) h =
    both (c == 58) (list_all is_name (parts_of (prefix ++ 58 ∷ name))) (left_of (c == 58) (list_all is_name (parts_of prefix)) path)
    (ap (list_all is_name) (parts-joined 58 prefix name) ∙ list_all-append is_name (parts_of prefix) (parts_of name)
    ∙ both (list_all is_name (parts_of prefix)) (list_all is_name (parts_of name)) (right_of (c == 58) (list_all is_name (parts_of prefix)) path) (in_root name h))

all_projects : (prefix : List ℕ) (names : List (List ℕ)) → IsPrefix prefix → list_all is_name names ≡ true → list_all is_project_path (lineage_from prefix names) ≡ true
all_projects prefix [] is h = refl
all_projects prefix (name ∷ names) is h =
    let here = following prefix name is (left_of (is_name name) (list_all is_name names) h) in
    both (is_project_path (prefix ++ 58 ∷ name)) (list_all is_project_path (lineage_from (prefix ++ 58 ∷ name) names))
    (or_right (bytes_eq (prefix ++ 58 ∷ name) (codes ":")) (is_task_path (prefix ++ 58 ∷ name)) here)
    (all_projects (prefix ++ 58 ∷ name) names (inr here) (right_of (is_name name) (list_all is_name names) h))

-- a project and its parents are projects
pub lineage_is_good : (path : List ℕ) → is_project_path path ≡ true → list_all is_project_path (lineage path) ≡ true
lineage_is_good path good = by (bytes_eq path (codes ":")) refl
  where
    by : (b : Bool) → bytes_eq path (codes ":") ≡ b → list_all is_project_path (lineage path) ≡ true
    by true is = subst (λ p. list_all is_project_path (lineage p) ≡ true) (sym ((bytes_decides path (codes ":")).0 is)) refl
    by false is = all_projects [] (parts_of (drop 1 path)) (inl refl) (names_of_path path (names_something path good is))

pub begins_with_colon : (path : List ℕ) → is_project_path path ≡ true → path ≡ 58 ∷ drop 1 path
begins_with_colon [] h = absurd (true≢false (sym h))
begins_with_colon (c ∷ text) h = by (c == 58) refl
  where
    by : (b : Bool) → (c == 58) ≡ b → (c ∷ text) ≡ 58 ∷ text
    by true is = ap (λ d. d ∷ text) (eqb-true c 58 is)
    by false is = absurd (true≢false (sym h ∙ ap (λ b. (b && bytes_eq text []) || (b && list_all is_name (parts_of text))) is))
