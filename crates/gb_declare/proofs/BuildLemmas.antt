-- The build folder of a project is a place.
use Rattle.std.proofs.Common.{◌≡◌, ℕ, ◌+◌, ◌≤◌, Bool, true, false, cond, ◌&&◌, ◌||◌, List, [], ◌∷◌, ◌++◌, length, refl, ap, ◌∙◌, Some, None, arith, length-append}
use Rattle.std.proofs.lemmas.List.Folds.{list_all-append}
use Rattle.std.specs.Prelude.{bytes_eq, codes, nat_le, zip}
use Rattle.std.specs.List.{flat_map, list_all}
use Rattle.gb_core.proofs.BySegments.{segments-joined}
use Rattle.gb_core.proofs.TaskPaths.{left_of, right_of}
use Rattle.gb_core.specs.Path.{is_task_path}
use Rattle.gb_core.specs.Place.{is_place, is_printable, is_segment, joined, segments}
use Rattle.gb_report.specs.declared.fault.Fault.TheVariants as faults
use Rattle.gb_registry.proofs.Fine.{AreFine, both_true, fits, is_fine, projects_fine, short_enough}
use Rattle.gb_registry.proofs.Folders.{folder_is_place}
use Rattle.gb_registry.specs.Projects.{Path, folder_text, project_paths, root_path}
use Rattle.gb_script.specs.declared.script.Statement.{Statement}
use Rattle.gb_declare.specs.Whole.{build_folder}
use Rattle.gb_declare.specs.Scripts.{build_faults}
use Rattle.gb_declare.specs.NodesInTable.{BuildsArePlaces}
use Rattle.gb_declare.proofs.FoundLemmas.{nil_both}

-- a folder in a folder
in_folder : (folder : List ℕ) → is_place folder ≡ true → length folder ≤ 896 → is_place (folder ++ 47 ∷ codes "build") ≡ true
in_folder folder good short =
    let prefix = left_of (nat_le (length folder) 1024 && list_all is_printable folder) (list_all is_segment (segments folder)) good in
    let shown = right_of (nat_le (length folder) 1024) (list_all is_printable folder) prefix in
    let parts = right_of (nat_le (length folder) 1024 && list_all is_printable folder) (list_all is_segment (segments folder)) good in
    let long : length (folder ++ 47 ∷ codes "build") ≡ length folder + 6 = length-append folder (47 ∷ codes "build") in
    both_true (nat_le (length (folder ++ 47 ∷ codes "build")) 1024 && list_all is_printable (folder ++ 47 ∷ codes "build")) (list_all is_segment (segments (folder ++ 47 ∷ codes "build")))
    (both_true (nat_le (length (folder ++ 47 ∷ codes "build")) 1024) (list_all is_printable (folder ++ 47 ∷ codes "build"))
    (fits (length (folder ++ 47 ∷ codes "build")) (omega (arith, long, short)))
    (list_all-append is_printable folder (47 ∷ codes "build") ∙ ap (λ b. b && list_all is_printable (47 ∷ codes "build")) shown))
    (ap (list_all is_segment) (segments-joined folder (codes "build")) ∙ list_all-append is_segment (segments folder) (segments (codes "build"))
    ∙ ap (λ b. b && list_all is_segment (segments (codes "build"))) parts)

fine_folder : (path : Path) (b : Bool) → bytes_eq path root_path ≡ b → (b || (is_task_path path && nat_le (length (folder_text path)) 896)) ≡ true
    → is_place (joined (cond b None (Some (folder_text path))) (codes "build")) ≡ true
fine_folder path true is fine = refl
fine_folder path false is fine =
    let short = short_enough (folder_text path) (right_of (is_task_path path) (nat_le (length (folder_text path)) 896) fine) in
    in_folder (folder_text path) (folder_is_place path (left_of (is_task_path path) (nat_le (length (folder_text path)) 896) fine) short) short

fine_is_good : (path : Path) → is_fine path ≡ true → build_faults path ≡ []
fine_is_good path fine =
    let place : is_place (build_folder path) ≡ true =
    ap (λ b. is_place (joined (cond b None (Some (folder_text path))) (codes "build"))) refl ∙ fine_folder path (bytes_eq path root_path) refl fine in
    ap (λ b. cond b [] (faults.BadProjectPlace path ∷ [])) place

-- ---- The projects of settings are fine

none_at : (paths : List Path) (scripts : List (List Statement)) → AreFine paths → flat_map (λ (script : Path × List Statement). build_faults script.0) (zip paths scripts) ≡ []
none_at [] scripts fine = refl
none_at (path ∷ paths) [] fine = refl
none_at (path ∷ paths) (script ∷ scripts) fine =
    nil_both (build_faults path) (flat_map (λ (script : Path × List Statement). build_faults script.0) (zip paths scripts))
    (fine_is_good path (left_of (is_fine path) (list_all is_fine paths) fine)) (none_at paths scripts (right_of (is_fine path) (list_all is_fine paths) fine))

pub builds_are_places : BuildsArePlaces
builds_are_places settings scripts none = none_at (project_paths settings) scripts (projects_fine settings none)
