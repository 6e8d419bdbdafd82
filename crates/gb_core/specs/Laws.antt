-- Theorems about places and paths, as statements.
use Rattle.std.specs.Prelude.{◌≡◌, ◌↔◌, ℕ, List, ◌++◌, Some, IsTrue}
use Rattle.gb_core.specs.Name.{is_name}
use Rattle.gb_core.specs.Path.{is_project_path, is_task_path, project_of, task_in, task_name}
use Rattle.gb_core.specs.Place.{segments, IsBeneath, Overlap, is_beneath, overlaps, joined}

abbrev pub BeneathIsBySegments : Type 0
BeneathIsBySegments = (place folder : List ℕ) → IsTrue (is_beneath place folder) ↔ IsBeneath place folder

abbrev pub OverlapIsBySegments : Type 0
OverlapIsBySegments = (a b : List ℕ) → IsTrue (overlaps a b) ↔ Overlap a b

abbrev pub JoinIsBySegments : Type 0
JoinIsBySegments =
    (folder text : List ℕ) → segments (joined (Some folder) text) ≡ segments folder ++ segments text

-- The parts of a task path are a project path and a name; joined, they give the task path back.
abbrev pub TaskPathsHaveParts : Type 0
TaskPathsHaveParts =
    (path : List ℕ) → IsTrue (is_task_path path)
    → IsTrue (is_project_path (project_of path)) × IsTrue (is_name (task_name path))
    × (task_in (project_of path) (task_name path) ≡ path)

-- A project path and a name make a task path, and its parts are these two.
abbrev pub PartsMakeTaskPaths : Type 0
PartsMakeTaskPaths =
    (project name : List ℕ) → IsTrue (is_project_path project) → IsTrue (is_name name)
    → IsTrue (is_task_path (task_in project name)) × (project_of (task_in project name) ≡ project)
    × (task_name (task_in project name) ≡ name)
