-- The projects of settings without a fault: the folder of each leaves room for the names in it.
use Rattle.std.proofs.Common.{◌≡◌, ℕ, ◌≤◌, Bool, true, false, cond, ◌&&◌, ◌||◌, List, [], ◌∷◌, ◌++◌, length, refl, sym, ap, subst, ◌∙◌, arith}
use Rattle.std.proofs.lemmas.Bool.Decides.{nat_tests}
use Rattle.std.proofs.lemmas.List.Folds.{list_all-append}
use Rattle.std.specs.Prelude.{bytes_eq, codes, nat_le, nat_lt}
use Rattle.std.specs.List.{flat_map, list_all}
use Rattle.gb_core.proofs.TaskPaths.{left_of, right_of}
use Rattle.gb_core.specs.Path.{is_project_path, is_task_path, task_name}
use Rattle.gb_report.specs.declared.fault.Fault.{Fault}
use Rattle.gb_report.specs.declared.fault.Fault.TheVariants as faults
use Rattle.gb_registry.proofs.Folders.{lineage_is_good}
use Rattle.gb_registry.specs.Projects.{Path, absolute, crowd_faults, folder_text, included, is_among, lineage_of, path_faults, paths_faults, place_faults, project_paths, root_path, settings_faults, text_faults, texts_faults, with_path, with_paths}

pub both_true : (a b : Bool) → a ≡ true → b ≡ true → (a && b) ≡ true
both_true a b is also = ap (λ x. x && b) is ∙ also

-- the root, or a path whose folder is not too long
abbrev pub is_fine : Path → Bool
is_fine path = bytes_eq path root_path || (is_task_path path && nat_le (length (folder_text path)) 896)

pub short_enough : (text : List ℕ) → nat_le (length text) 896 ≡ true → length text ≤ 896
short_enough text is = grind (arith, nat_tests)

pub fits : (n : ℕ) → n ≤ 1024 → nat_le n 1024 ≡ true
fits n le = grind (arith, nat_tests)

-- ---- The projects of settings without a fault are fine

abbrev pub AreFine : List Path → Type 0
AreFine paths = list_all is_fine paths ≡ true

or_none : (a b : Bool) (x : Fault) → cond (a || b) (x ∷ []) [] ≡ [] → b ≡ false
or_none true b x none = absurd (cc)
or_none false true x none = absurd (cc)
or_none false false x none = refl

pub nil_prefix : {X : Type 0} (xs ys : List X) → xs ++ ys ≡ [] → xs ≡ []
nil_prefix [] ys e = refl
nil_prefix (x ∷ xs) ys e = absurd (cc)

pub nil_back : {X : Type 0} (xs ys : List X) → xs ++ ys ≡ [] → ys ≡ []
nil_back [] ys e = e
nil_back (x ∷ xs) ys e = absurd (cc)

not_long : (n : ℕ) → nat_lt 896 n ≡ false → nat_le n 896 ≡ true
not_long n is = grind (arith, nat_tests)

root_or_path : (a b c : Bool) → (a || b) ≡ true → c ≡ true → (a || (b && c)) ≡ true
root_or_path true b c is short = refl
root_or_path false b c is short = both_true b c is short

path_fine : (path : Path) → is_project_path path ≡ true → place_faults path ≡ [] → is_fine path ≡ true
path_fine path good none =
    root_or_path (bytes_eq path root_path) (is_task_path path) (nat_le (length (folder_text path)) 896) good
    (not_long (length (folder_text path)) (or_none (bytes_eq (task_name path) (codes "build")) (nat_lt 896 (length (folder_text path))) _ none))

with_fine : (there : List Path) (path : Path) (b : Bool) → AreFine there → is_project_path path ≡ true → cond b [] (place_faults path ++ crowd_faults there) ≡ [] → AreFine (cond b there (there ++ path ∷ []))
with_fine there path true fine good none = fine
with_fine there path false fine good none =
    list_all-append is_fine there (path ∷ [])
    ∙ both_true (list_all is_fine there) (is_fine path && true) fine (both_true (is_fine path) true (path_fine path good (nil_prefix (place_faults path) (crowd_faults there) none)) refl)

with_all_fine : (there paths : List Path) → AreFine there → list_all is_project_path paths ≡ true → paths_faults there paths ≡ [] → AreFine (with_paths there paths)
with_all_fine there [] fine good none = fine
with_all_fine there (path ∷ paths) fine good none =
    with_all_fine (with_path there path) paths
    (with_fine there path (is_among there path) fine (left_of (is_project_path path) (list_all is_project_path paths) good) (nil_prefix (path_faults there path) (paths_faults (with_path there path) paths) none))
    (right_of (is_project_path path) (list_all is_project_path paths) good) (nil_back (path_faults there path) (paths_faults (with_path there path) paths) none)

with_both : (there xs ys : List Path) → with_paths there (xs ++ ys) ≡ with_paths (with_paths there xs) ys
with_both there [] ys = refl
with_both there (x ∷ xs) ys = with_both (with_path there x) xs ys

text_fine : (there : List Path) (text : List ℕ) (b : Bool) → is_project_path (absolute root_path text) ≡ b → AreFine there
    → cond b (paths_faults there (lineage_of text)) (faults.BadName text ∷ []) ≡ [] → AreFine (with_paths there (lineage_of text))
text_fine there text true good fine none = with_all_fine there (lineage_of text) fine (lineage_is_good (absolute root_path text) good) none
text_fine there text false good fine none = absurd (cc)

texts_fine : (there : List Path) (texts : List (List ℕ)) → AreFine there → texts_faults there texts ≡ [] → AreFine (with_paths there (flat_map lineage_of texts))
texts_fine there [] fine none = fine
texts_fine there (text ∷ texts) fine none =
    let next = with_paths there (lineage_of text) in
    subst AreFine (sym (with_both there (lineage_of text) (flat_map lineage_of texts)))
    (texts_fine next texts
    (text_fine there text (is_project_path (absolute root_path text)) refl fine (nil_prefix (text_faults there text) (texts_faults next texts) none))
    (nil_back (text_faults there text) (texts_faults next texts) none))

pub projects_fine : (settings : List (List (List ℕ))) → settings_faults settings ≡ [] → AreFine (project_paths settings)
projects_fine settings none = texts_fine (root_path ∷ []) (included settings) refl none
