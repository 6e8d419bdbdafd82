-- The tasks that scripts register can be built.
use Rattle.std.specs.Prelude.{ℕ, ◌≡◌, ◌++◌, ◌&&◌, ◌||◌, Bool, true, false, not, cond, List, [], ◌∷◌, map, None, Some, Result, Ok, Err, IfOk, bytes_eq, codes, nat_eq, nat_le, length}
use Rattle.std.specs.List.{AllByRecursion, list_all, list_any, starts_with}
use Rattle.std.specs.List.Sorted.{IsStrictlySortedBy}
use Rattle.std.specs.Ordering.{is_lt}
use Rattle.std.proofs.Common.{refl, ap, ◌∙◌, arith}
use Rattle.std.proofs.lemmas.Bool.Decides.{nat_tests}
use Rattle.std.proofs.lemmas.Map.Keys.{sorted_head, sorted_tail}
use Rattle.gb_core.specs.Lists.{byte_order}
use Rattle.gb_core.specs.Path.{is_project_path, is_task_path, project_of}
use Rattle.gb_core.specs.Place.{is_beneath, joined}
use Rattle.gb_task.specs.Buildable.{IsBuildable}
use Rattle.gb_folder.specs.Files.{Place, is_own}
use Rattle.gb_history.specs.Ascending.{ascends, ascends_from}
use Rattle.gb_build.specs.Asking.{AreBuildable}
use Rattle.gb_build.proofs.OwnLemmas.{is_plain, plain_folder, plain_not_own}
use Rattle.gb_plan.proofs.Tests.{at_member, left_of, neither, not_true, or_right, right_of}
use Rattle.gb_plan.specs.Graph.{IsDeclared, IsRegistry, build_folder}
use Rattle.gb_plan.specs.Task.{Path}
use Rattle.gb_plan.specs.declared.task.Output.{Output}
use Rattle.gb_plan.specs.declared.task.TaskDeclaration.{TaskDeclaration as Task}
use Rattle.gb_declare.proofs.ReadyLemmas.{realised_is_sound}
use Rattle.gb_declare.proofs.RisingLemmas.{realised_names_rise}
use Rattle.gb_declare.specs.Realised.{Trouble, Plain, Endless, realised}
use Rattle.gb_registry.specs.Projects.{folder_text, root_path}
use Rattle.gb_registry.specs.Read.{IsRead}
use Rattle.gb_registry.specs.Source.{Source}
use Rattle.gb_registry.specs.Tables.{Tables}
use Rattle.gb_report.specs.declared.fault.Fault.{Fault}
use Rattle.gb_script.specs.declared.script.Statement.{Statement}
use Rattle.gb_registry.proofs.Fine.{is_fine, projects_fine}
use Rattle.gb_project.proofs.FolderLemmas.{same_folder}
use Rattle.gb_declare.specs.Registered.{declaration_of, registry_said, settled}

-- ---- Names

rises_from : (last : List ℕ) (names : List (List ℕ)) → IsStrictlySortedBy byte_order (last ∷ names) → ascends_from last names ≡ true
rises_from last [] sorted = refl
rises_from last (name ∷ names) sorted =
    ap (λ o. is_lt o && ascends_from name names) (sorted_head byte_order last (name ∷ names) sorted).0
    ∙ rises_from name names (sorted_tail byte_order last (name ∷ names) sorted)

-- sorted names ascend from neighbour to neighbour
rise : (names : List (List ℕ)) → IsStrictlySortedBy byte_order names → ascends names ≡ true
rise [] sorted = refl
rise (name ∷ names) sorted = rises_from name names sorted

-- ---- Places

alike_plain : (c d : ℕ) → nat_eq d c ≡ true → not (nat_eq 46 d) ≡ true → not (nat_eq 46 c) ≡ true
alike_plain c d same plain = grind (arith, nat_tests)

-- a place under a plain folder is plain
beneath_plain : (place folder : Place) → is_plain folder ≡ true → is_beneath place folder ≡ true → is_plain place ≡ true
beneath_plain place [] plain beneath = not_true plain
beneath_plain [] (d ∷ folder) plain beneath = not_true beneath
beneath_plain (c ∷ place) (d ∷ folder) plain beneath = alike_plain c d (left_of (nat_eq d c) (starts_with nat_eq place (folder ++ 47 ∷ [])) beneath) plain

-- the build folder of a project whose folder is none too long is plain
folder_plain : (project : Path) → is_fine project ≡ true → is_plain (build_folder project) ≡ true
folder_plain project fine = ap is_plain (same_folder project (by_path (bytes_eq project root_path) refl fine)) ∙ by (bytes_eq project root_path) refl fine
  where
    by_path : (b : Bool) → bytes_eq project root_path ≡ b → (b || (is_task_path project && nat_le (length (folder_text project)) 896)) ≡ true → is_project_path project ≡ true
    by_path true is fine = ap (λ b. b || is_task_path project) is
    by_path false is fine = or_right (bytes_eq project (codes ":")) (is_task_path project) (left_of (is_task_path project) (nat_le (length (folder_text project)) 896) fine)

    by : (b : Bool) → bytes_eq project root_path ≡ b → (b || (is_task_path project && nat_le (length (folder_text project)) 896)) ≡ true
        → is_plain (joined (cond b None (Some (folder_text project))) (codes "build")) ≡ true
    by true is fine = refl
    by false is fine = plain_folder project (codes "build") (left_of (is_task_path project) (nat_le (length (folder_text project)) 896) fine)

-- no output under a plain folder is the tool's own
none_own : (folder : Place) → is_plain folder ≡ true → (outputs : List Output) → list_all (λ place. is_beneath place folder) (map (λ (output : Output). output.place) outputs) ≡ true
    → list_any (λ (output : Output). is_own output.place) outputs ≡ false
none_own folder plain [] all = refl
none_own folder plain (output ∷ outputs) all =
    let others : Bool = list_all (λ place. is_beneath place folder) (map (λ (other : Output). other.place) outputs) in
    neither (is_own output.place) (list_any (λ (other : Output). is_own other.place) outputs)
    (plain_not_own output.place (beneath_plain output.place folder plain (left_of (is_beneath output.place folder) others all)))
    (none_own folder plain outputs (right_of (is_beneath output.place folder) others all))

-- ---- Tasks

-- the projects of what is read have such folders
fine_projects : (source : Source) (scripts : List (Path × List Statement)) → IsRead source scripts → list_all is_fine source.names.projects ≡ true
fine_projects source scripts read = ap (λ (s : Source). list_all is_fine s.names.projects) read.said ∙ projects_fine read.settings read.good

module _ {M F Z S A : Type 0} (tables : Tables M F Z S A) (source : Source) (fine : list_all is_fine source.names.projects ≡ true) where
  realised_buildable : (path : Path) (task : Task) → realised tables source path ≡ Ok task → IsDeclared (registry_said tables source) path task → IsBuildable tables.shapes tables.kinds task
  realised_buildable path task is declared =
      let names = realised_names_rise tables source path task is in
      record {
        ready = (realised_is_sound tables source path task is).2.ready;
        in_order = record { values = rise _ names.values; files = rise _ names.files; outputs = rise _ names.outputs };
        not_own =
            none_own (build_folder (project_of path)) (folder_plain (project_of path) (at_member is_fine source.names.projects (project_of path) fine declared.in_project))
            task.outputs declared.in_build_folder;
      }

  buildable_if : (path : Path) (r : Result Task Trouble) → realised tables source path ≡ r → IfOk (settled tables source r) (IsDeclared (registry_said tables source) path)
      → IfOk (settled tables source r) (IsBuildable tables.shapes tables.kinds)
  buildable_if path (Ok task) is declared = realised_buildable path task is declared
  buildable_if path (Err (Plain fault)) is declared = tt
  buildable_if path (Err (Endless entry)) is declared = tt

  abbrev with_declaration : Path → Path × Result Task Fault
  with_declaration path = (path, declaration_of tables source path)

  each_buildable : (paths : List Path) → AllByRecursion (λ (entry : Path × Result Task Fault). IfOk entry.1 (IsDeclared (registry_said tables source) entry.0)) (map with_declaration paths)
      → AllByRecursion (λ (entry : Path × Result Task Fault). IfOk entry.1 (IsBuildable tables.shapes tables.kinds)) (map with_declaration paths)
  each_buildable [] all = tt
  each_buildable (path ∷ paths) all = (buildable_if path (realised tables source path) refl all.0, each_buildable paths all.1)

-- each task of what is read can be built
pub are_buildable : {M F Z S A : Type 0} (tables : Tables M F Z S A) (source : Source) (scripts : List (Path × List Statement)) → IsRead source scripts
    → IsRegistry (registry_said tables source) → AreBuildable tables.shapes tables.kinds (registry_said tables source)
are_buildable tables source scripts read sound = each_buildable tables source (fine_projects source scripts read) _ sound.declared
