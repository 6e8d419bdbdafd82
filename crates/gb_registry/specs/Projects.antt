-- Which projects settings name.
use Rattle.std.specs.Prelude.{◌≡◌, ℕ, Bool, ◌||◌, ◌==◌, List, [], ◌∷◌, ◌++◌, map, drop, length, if◌then◌else◌}
use Rattle.std.specs.Prelude.{Option, Some, None, codes, bytes_eq, nat_eq, nat_le, nat_lt}
use Rattle.std.specs.List.{flat_map, list_any, slice_split, starts_with}
use Rattle.gb_core.specs.Path.{is_project_path, task_in, task_name}
use Rattle.gb_report.specs.declared.fault.Fault.{Fault}
use Rattle.gb_report.specs.declared.fault.Fault.TheVariants as faults
use Rattle.gb_report.specs.declared.fault.Limited.TheVariants as limited

-- the path of a project or of a task
abbrev pub Path : Type 0
Path = List ℕ

-- the text is one of these
abbrev pub is_among : List (List ℕ) → List ℕ → Bool
is_among texts text = list_any (bytes_eq text) texts

-- the path of the root project
abbrev pub root_path : Path
root_path = codes ":"

-- a text as a path: one that does not begin with a colon is relative to the project
abbrev pub absolute : Path → List ℕ → Path
absolute project text = if starts_with nat_eq text (codes ":") then text else task_in project text

-- the path of a project and those of its parents, the highest first
abbrev pub lineage_from : Path → List (List ℕ) → List Path
lineage_from prefix [] = []
lineage_from prefix (name ∷ names) = (prefix ++ 58 ∷ name) ∷ lineage_from (prefix ++ 58 ∷ name) names

-- the same for names with colons between them
abbrev pub lineage_of_names : List ℕ → List Path
lineage_of_names names = lineage_from [] (slice_split (λ b. b == 58) names)

abbrev pub lineage : Path → List Path
lineage path = lineage_of_names (drop 1 path)

-- the folder of a project: its names, with slashes between; the root has none
abbrev pub slashed : ℕ → ℕ
slashed b = if b == 58 then 47 else b

abbrev pub folder_text : Path → List ℕ
folder_text path = map slashed (drop 1 path)

abbrev pub folder_of : Path → Option (List ℕ)
folder_of path = if bytes_eq path root_path then None else Some (folder_text path)

-- ---- What settings add to the projects

-- these, and each path that is not present yet
abbrev pub with_path : List Path → Path → List Path
with_path there path = if is_among there path then there else there ++ path ∷ []

abbrev pub with_paths : List Path → List Path → List Path
with_paths there [] = there
with_paths there (path ∷ paths) = with_paths (with_path there path) paths

-- what a text adds: its project, after its parents
abbrev pub lineage_of : List ℕ → List Path
lineage_of text = lineage (absolute root_path text)

-- all texts of all includes
abbrev pub included : List (List (List ℕ)) → List (List ℕ)
included settings = flat_map (λ texts. texts) settings

-- the root, and what the texts add, in their order
abbrev pub project_paths : List (List (List ℕ)) → List Path
project_paths settings = with_paths (root_path ∷ []) (flat_map lineage_of (included settings))

-- projects with their folders
abbrev pub with_folders : List Path → List (Path × Option (List ℕ))
with_folders paths = map (λ path. (path, folder_of path)) paths

abbrev pub projects_of : List (List (List ℕ)) → List (Path × Option (List ℕ))
projects_of settings = with_folders (project_paths settings)

-- ---- Why settings are refused

-- no project is named `build`, and the place of a folder has at most 896 bytes
abbrev pub place_faults : Path → List Fault
place_faults path =
    if bytes_eq (task_name path) (codes "build")
    || nat_lt 896 (length (folder_text path)) then faults.BadProjectPlace path ∷ [] else []

-- there are at most 256 projects, the root among them
abbrev pub crowd_faults : List Path → List Fault
crowd_faults there = if nat_le 256 (length there) then faults.TooMany limited.Projects ∷ [] else []

-- the faults of a path that is to be added to these
abbrev pub path_faults : List Path → Path → List Fault
path_faults there path = if is_among there path then [] else place_faults path ++ crowd_faults there

abbrev pub paths_faults : List Path → List Path → List Fault
paths_faults there [] = []
paths_faults there (path ∷ paths) = path_faults there path ++ paths_faults (with_path there path) paths

abbrev pub text_faults : List Path → List ℕ → List Fault
text_faults there text =
    if is_project_path (absolute root_path text) then paths_faults there (lineage_of text)
    else faults.BadName text ∷ []

abbrev pub texts_faults : List Path → List (List ℕ) → List Fault
texts_faults there [] = []
texts_faults there (text ∷ texts) =
    text_faults there text ++ texts_faults (with_paths there (lineage_of text)) texts

-- the faults of settings, in the order of the text
abbrev pub settings_faults : List (List (List ℕ)) → List Fault
settings_faults settings = texts_faults (root_path ∷ []) (included settings)

-- these are the projects of settings without a fault
abbrev pub AreOfSettings : List Path → Type 0
AreOfSettings projects =
    (settings : List (List (List ℕ))) × (settings_faults settings ≡ []) × (projects ≡ project_paths settings)
