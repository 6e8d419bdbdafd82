-- Paths of projects and tasks: names, each after a colon.
use Rattle.std.specs.Prelude.{ℕ, Bool, false, ◌&&◌, ◌||◌, ◌==◌, List, [], ◌∷◌, ◌++◌}
use Rattle.std.specs.Prelude.{codes, bytes_eq, if◌then◌else◌}
use Rattle.std.specs.List.{slice_split, list_all, after_last, before_last}
use Rattle.gb_core.specs.Name.{is_name}

-- a colon and a name, one or more times
abbrev pub is_task_path : List ℕ → Bool
is_task_path [] = false
is_task_path (c ∷ text) = (c == 58) && list_all is_name (slice_split (λ b. b == 58) text)

-- a colon alone for the root, or a colon and a name, one or more times
abbrev pub is_project_path : List ℕ → Bool
is_project_path text = bytes_eq text (codes ":") || is_task_path text

-- the name of a task: the text after the last colon
abbrev pub task_name : List ℕ → List ℕ
task_name path = after_last (λ b. b == 58) path

-- the root's path if nothing precedes the last colon
abbrev pub root_if_empty : List ℕ → List ℕ
root_if_empty [] = codes ":"
root_if_empty (c ∷ prefix) = c ∷ prefix

-- the project of a task: the text before the last colon, or the root
abbrev pub project_of : List ℕ → List ℕ
project_of path = root_if_empty (before_last (λ b. b == 58) path)

-- the path of the task of this name in a project
abbrev pub task_in : List ℕ → List ℕ → List ℕ
task_in project name = if bytes_eq project (codes ":") then 58 ∷ name else project ++ 58 ∷ name
