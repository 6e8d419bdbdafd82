-- The files of an action are at the outputs of its task, and none of their faults is a failure of the device.
use Rattle.std.proofs.Common.{◌≡◌, ℕ, Bool, true, false, cond, not, ◌||◌, List, [], ◌∷◌, ◌++◌, map, length, Option, Some, None, refl, ap, subst, ◌∙◌}
use Rattle.std.proofs.lemmas.Bool.{and_from, and_parts}
use Rattle.std.specs.List.{AllByRecursion, list_all, list_any, flat_map}
use Rattle.std.specs.Prelude.{bytes_eq, nat_lt}
use Rattle.gb_core.specs.Place.{beneath, is_place, is_under}
use Rattle.gb_core.specs.Lists.{first_of}
use Rattle.gb_action.specs.declared.reply.Written.{Written}
use Rattle.gb_folder.specs.Files.{Place, Bytes, Files, is_blocked, with_file}
use Rattle.gb_folder.specs.Limits.{max_file}
use Rattle.gb_folder.proofs.Sound.{all_put}
use Rattle.gb_plan.specs.declared.task.Output.{Output}
use Rattle.gb_plan.proofs.Places.{beneath_under}
use Rattle.gb_plan.proofs.Tests.{or_true}
use Rattle.gb_report.specs.declared.fault.Fault.{Fault}
use Rattle.gb_report.specs.declared.fault.Fault.TheVariants as faults
use Rattle.gb_semantics.specs.Made.{fault_if, file_faults, full_outputs, output_named, placed, placed_in, put_over}
use Rattle.gb_run.specs.Placing.{blank, count_faults, faults_beside}
use Rattle.gb_tree.proofs.Holding.{all_append}

-- ---- outputs

abbrev pub is_at : List Output → Place → Bool
is_at outputs place = list_any (λ output. is_under place output.place) outputs

-- a place at or under the output of a name
at_named : (outputs : List Output) (name : List ℕ) (file : Written) → AllByRecursion (λ (f : Place × Bytes). is_at outputs f.0 ≡ true) (placed_in (output_named outputs name) file)
at_named [] name file = tt
at_named (output ∷ outputs) name file =
    elim (bytes_eq output.name name) as (λ b. AllByRecursion (λ (f : Place × Bytes). is_at (output ∷ outputs) f.0 ≡ true) (placed_in (cond b (Some output) (output_named outputs name)) file)) [
      | true ↦ (ap (λ b. b || is_at outputs (beneath output.place file.path)) (beneath_under output.place file.path), tt)
      | false ↦ more (output_named outputs name) (at_named outputs name file)
    ]
  where
    more : (o : Option Output) → AllByRecursion (λ (f : Place × Bytes). is_at outputs f.0 ≡ true) (placed_in o file) → AllByRecursion (λ (f : Place × Bytes). is_at (output ∷ outputs) f.0 ≡ true) (placed_in o file)
    more None h = tt
    more (Some other) h = (ap (λ b. is_under (beneath other.place file.path) output.place || b) h.0 ∙ or_true (is_under (beneath other.place file.path) output.place), tt)

by_writes : (outputs : List Output) (written : List Written) → AllByRecursion (λ (f : Place × Bytes). is_at outputs f.0 ≡ true) (placed outputs written)
by_writes outputs [] = tt
by_writes outputs (file ∷ written) = all_append (λ (f : Place × Bytes). is_at outputs f.0 ≡ true) _ (placed outputs written) (at_named outputs file.output file) (by_writes outputs written)

all_over : (test : Place → Bool) (held : Files) (files : List (Place × Bytes)) → list_all (λ (f : Place × Bytes). test f.0) held ≡ true
    → AllByRecursion (λ (f : Place × Bytes). test f.0 ≡ true) files → list_all (λ (f : Place × Bytes). test f.0) (put_over held files) ≡ true
all_over test held [] before all = before
all_over test held (file ∷ files) before all = all_over test (with_file held file.0 file.1) files (all_put test file.0 file.1 held ∙ and_from _ _ all.0 before) all.1

each_of : (test : Place → Bool) (files : Files) → list_all (λ (f : Place × Bytes). test f.0) files ≡ true → AllByRecursion (λ (f : Place × Bytes). test f.0 ≡ true) files
each_of test [] all = tt
each_of test (file ∷ files) all = let parts = and_parts (test file.0) _ all in (parts.0, each_of test files parts.1)

-- what is written is placed at outputs
pub placed_at_outputs : (outputs : List Output) (written : List Written) → AllByRecursion (λ (f : Place × Bytes). is_at outputs f.0 ≡ true) (put_over [] (placed outputs written))
placed_at_outputs outputs written = each_of (is_at outputs) _ (all_over (is_at outputs) [] (placed outputs written) refl (by_writes outputs written))

-- the same at outputs that are these
pub placed_at_these : (outputs these : List Output) (written : List Written) → outputs ≡ these → AllByRecursion (λ (f : Place × Bytes). is_at these f.0 ≡ true) (put_over [] (placed outputs written))
placed_at_these outputs these written same =
    subst (λ (os : List Output). AllByRecursion (λ (f : Place × Bytes). is_at os f.0 ≡ true) (put_over [] (placed outputs written))) same (placed_at_outputs outputs written)

-- ---- the faults of files do not depend on the device

abbrev pub BlamesNone : Fault → Type 0
BlamesNone fault = (place : Place) → fault ≡ faults.Device place → ⊥

if_blames_none : (hindered : Bool) (fault : Fault) → BlamesNone fault → AllByRecursion BlamesNone (fault_if hindered fault)
if_blames_none true fault h = (h, tt)
if_blames_none false fault h = tt

pub files_blame_none : (all files : Files) → AllByRecursion BlamesNone (flat_map (file_faults all) files)
files_blame_none all [] = tt
files_blame_none all (file ∷ files) =
    let bad = fault_if (not (is_place file.0)) (faults.BadPlace file.0) in
    let blocked = fault_if (is_blocked all file.0) (faults.Blocked file.0) in
    let larger = fault_if (nat_lt max_file (length file.1)) (faults.TooLarge file.0) in
    all_append BlamesNone (file_faults all file) (flat_map (file_faults all) files)
    (all_append BlamesNone (bad ++ blocked) larger
    (all_append BlamesNone bad blocked (if_blames_none _ _ (λ place e. cc)) (if_blames_none _ _ (λ place e. cc)))
    (if_blames_none _ _ (λ place e. cc)))
    (files_blame_none all files)

pub counts_blame_none : (outputs : List Output) → AllByRecursion BlamesNone (map (λ (output : Output). faults.TooManyFiles output.name) outputs)
counts_blame_none [] = tt
counts_blame_none (output ∷ outputs) = ((λ place e. cc), counts_blame_none outputs)

first_blames_none : (faults : List Fault) (fault : Fault) → AllByRecursion BlamesNone faults → first_of faults ≡ Some fault → BlamesNone fault
first_blames_none [] fault all e = absurd (cc)
first_blames_none (first ∷ faults) fault all e = λ place is. let same : first ≡ fault = cc in all.0 place (same ∙ is)

-- faults of files that conflict are not attributed to the device
pub placing_blames_none : (outputs : List Output) (taken files : Files) (fault : Fault) (place : Place) → first_of (faults_beside outputs taken files) ≡ Some fault → fault ≡ faults.Device place → ⊥
placing_blames_none outputs taken files fault place e is =
    let all = put_over taken (blank files) in
    first_blames_none (faults_beside outputs taken files) fault
    (all_append BlamesNone (flat_map (file_faults all) files) (count_faults outputs all) (files_blame_none all files) (counts_blame_none (full_outputs outputs all))) e place is
