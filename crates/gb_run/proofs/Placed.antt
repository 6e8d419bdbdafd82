-- Files of an action, given those that a task has put before: their faults, how large they are, and their
-- places.
use Rattle.std.proofs.Common.{◌≡◌, ◌≤◌, ℕ, Bool, true, false, not, List, [], ◌∷◌, ◌++◌, length, Some, refl, sym, ap, subst, ◌∙◌, arith, Bor}
use Rattle.std.proofs.lemmas.Bool.{and_from, not-false}
use Rattle.std.specs.List.{AllByRecursion, flat_map}
use Rattle.std.specs.Prelude.{nat_lt}
use Rattle.gb_core.specs.Place.{is_place}
use Rattle.gb_core.specs.Lists.{first_of}
use Rattle.gb_folder.specs.Files.{Place, Bytes, Files, are_placed, is_blocked, with_file}
use Rattle.gb_folder.specs.Limits.{max_file}
use Rattle.gb_folder.proofs.Sound.{all_put}
use Rattle.gb_report.specs.declared.fault.Fault.{Fault}
use Rattle.gb_report.specs.declared.fault.Fault.TheVariants as faults
use Rattle.gb_plan.specs.declared.task.Output.{Output}
use Rattle.gb_folder.specs.Changes.{shown}
use Rattle.gb_semantics.specs.Made.{fault_if, file_faults, put_over}
use Rattle.gb_run.specs.Placing.{blank, count_faults, faults_beside}

-- ---- lists

pub first_more : (xs ys : List Fault) (fault : Fault) → first_of xs ≡ Some fault → first_of (xs ++ ys) ≡ Some fault
first_more [] ys fault e = absurd (cc)
first_more (x ∷ xs) ys fault e = e

pub none_before : {X : Type 0} (xs ys : List X) → xs ++ ys ≡ [] → xs ≡ []
none_before [] ys e = refl
none_before (x ∷ xs) ys e = absurd (cc)

pub none_after : {X : Type 0} (xs ys : List X) → xs ++ ys ≡ [] → ys ≡ []
none_after [] ys e = e
none_after (x ∷ xs) ys e = absurd (cc)

pub all_prefix : {X : Type 0} (P : X → Type 0) (xs ys : List X) → AllByRecursion P (xs ++ ys) → AllByRecursion P xs
all_prefix P [] ys all = tt
all_prefix P (x ∷ xs) ys all = (all.0, all_prefix P xs ys all.1)

pub all_after : {X : Type 0} (P : X → Type 0) (xs ys : List X) → AllByRecursion P (xs ++ ys) → AllByRecursion P ys
all_after P [] ys all = all
all_after P (x ∷ xs) ys all = all_after P xs ys all.1

not_so : (hindered : Bool) (fault : Fault) → fault_if hindered fault ≡ [] → hindered ≡ false
not_so true fault e = absurd (cc)
not_so false fault e = refl

-- ---- the faults given what was taken before

-- the files by place, and the places taken with them, are these
pub beside_is : (outputs : List Output) (taken all files by_place : Files) → by_place ≡ files → all ≡ put_over taken (blank by_place)
    → faults_beside outputs taken files ≡ flat_map (file_faults all) by_place ++ count_faults outputs all
beside_is outputs taken all files by_place a b =
    ap (λ (observed : Files). flat_map (file_faults (put_over taken (blank observed))) observed ++ count_faults outputs (put_over taken (blank observed))) (sym a)
    ∙ ap (λ (held : Files). flat_map (file_faults held) by_place ++ count_faults outputs held) (sym b)

-- ---- files without a fault

not_larger : (size : ℕ) → nat_lt max_file size ≡ false → size ≤ max_file
not_larger size e = grind arith

small_files : (all files : Files) → flat_map (file_faults all) files ≡ [] → AllByRecursion (λ file. length file.1 ≤ max_file) files
small_files all [] none = tt
small_files all (file ∷ files) none =
    let own : file_faults all file ≡ [] = none_before _ (flat_map (file_faults all) files) none in
    let sized = none_after (fault_if (not (is_place file.0)) (faults.BadPlace file.0) ++ fault_if (is_blocked all file.0) (faults.Blocked file.0)) _ own in
    (not_larger (length file.1) (not_so _ _ sized), small_files all files (none_after (file_faults all file) _ none))

-- files that took their places are not too large
pub small_taken : (outputs : List Output) (taken files : Files) → faults_beside outputs taken files ≡ [] → AllByRecursion (λ file. length file.1 ≤ max_file) files
small_taken outputs taken files none =
    let all = put_over taken (blank files) in
    small_files all files (none_before _ (count_faults outputs all) none)

-- no file of these is in conflict with another
pub free_files_of : (all files : Files) → flat_map (file_faults all) files ≡ [] → AllByRecursion (λ file. is_blocked all file.0 ≡ false) files
free_files_of all [] none = tt
free_files_of all (file ∷ files) none =
    let own : file_faults all file ≡ [] = none_before _ (flat_map (file_faults all) files) none in
    let first = none_before (fault_if (not (is_place file.0)) (faults.BadPlace file.0) ++ fault_if (is_blocked all file.0) (faults.Blocked file.0)) _ own in
    (not_so _ _ (none_after (fault_if (not (is_place file.0)) (faults.BadPlace file.0)) _ first), free_files_of all files (none_after (file_faults all file) _ none))

-- places taken without a fault are places
pub placed_over : (all files taken : Files) → flat_map (file_faults all) files ≡ [] → are_placed taken ≡ true → are_placed (put_over taken (blank files)) ≡ true
placed_over all [] taken none exists = exists
placed_over all (file ∷ files) taken none exists =
    let own : file_faults all file ≡ [] = none_before _ (flat_map (file_faults all) files) none in
    let at : is_place file.0 ≡ true = not-false _ (not_so _ _ (none_before (fault_if (not (is_place file.0)) (faults.BadPlace file.0)) _ (none_before _ (fault_if (nat_lt max_file (length file.1)) (faults.TooLarge file.0)) own))) in
    placed_over all files (with_file taken file.0 []) (none_after (file_faults all file) _ none) (all_put is_place file.0 [] taken ∙ and_from _ _ at exists)

-- ---- borrowed bytes

-- what holds of files holds of them with their bytes borrowed
pub all_shown : (P : Place × Bytes → Type 0) (files : List (Place × Bor Bytes)) (observed : List (Place × Bytes)) → shown files ≡ observed → AllByRecursion P observed → AllByRecursion (λ file. P (file.0, file.1.now)) files
all_shown P files observed is all = go files (subst (λ (fs : List (Place × Bytes)). AllByRecursion P fs) (sym is) all)
  where
    go : (fs : List (Place × Bor Bytes)) → AllByRecursion P (shown fs) → AllByRecursion (λ file. P (file.0, file.1.now)) fs
    go [] h = tt
    go (f ∷ fs) h = (h.0, go fs h.1)
