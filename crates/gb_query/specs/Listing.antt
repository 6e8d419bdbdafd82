-- The printed form of registered tasks, as lines and as JSON.
use Rattle.std.specs.Prelude.{ℕ, ◌==◌, ◌||◌, Bool, List, [], ◌++◌, Option, Some, None, Result, Ok, Err}
use Rattle.std.specs.Prelude.{bytes_eq, codes, if◌then◌else◌, map}
use Rattle.std.specs.List.{flat_map, list_any}
use Rattle.serde_json.specs.Data.{Data, array, boolean, member, no_members, object, string}
use Rattle.serde_json.specs.View.{items_of}
use Rattle.gb_core.specs.Path.{task_name}
use Rattle.gb_picture.specs.Shown.{shown_text}
use Rattle.gb_plan.specs.Graph.{Registry, declaration_at, paths_of}
use Rattle.gb_plan.specs.Task.{Path, Text}
use Rattle.gb_plan.specs.declared.task.Action.{Action}
use Rattle.gb_plan.specs.declared.task.Output.{Output}
use Rattle.gb_plan.specs.declared.task.TaskDeclaration.{TaskDeclaration}
use Rattle.gb_report.specs.Fault.{fault_text}
use Rattle.gb_report.specs.Report.{line}
use Rattle.gb_report.specs.declared.fault.Fault.{Fault}

abbrev pub has_colon : Text → Bool
has_colon word = list_any (λ byte. byte == 58) word

-- the word is the path, with its first colon or without it
abbrev pub is_path_of : Text → Path → Bool
is_path_of word path = bytes_eq word path || bytes_eq path (codes ":" ++ word)

-- A word with a colon selects the task at its path; one without a colon selects all tasks with that name.
abbrev pub selects : Text → Path → Bool
selects word path = if has_colon word then is_path_of word path else bytes_eq word (task_name path)

abbrev pub is_default : List Text → Path → Bool
is_default words path = list_any (λ word. selects word path) words

abbrev pub default_text : List Text → Path → List ℕ
default_text words path = if is_default words path then codes " (default)" else []

abbrev pub kind_text : Action → List ℕ
kind_text action = codes " " ++ action.kind

abbrev pub output_text : Output → List ℕ
output_text output = codes " -> " ++ shown_text output.place

-- the kinds of its actions and the places that it makes, or its fault
abbrev pub made_text : Option (Result TaskDeclaration Fault) → List ℕ
made_text (Some (Ok task)) = flat_map kind_text task.actions ++ flat_map output_text task.outputs
made_text (Some (Err fault)) = codes ": " ++ fault_text fault
made_text None = []

abbrev pub task_line : Registry → Path → List ℕ
task_line registry path =
    line (path ++ default_text registry.default_tasks path ++ made_text (declaration_at registry path))

-- exactly the registered tasks, in the order of registration
abbrev pub tasks_text : Registry → List ℕ
tasks_text registry = flat_map (task_line registry) (paths_of registry)

-- ---- As JSON

abbrev pub kinds_data : List Action → Data
kinds_data actions = array (items_of (map (λ action. string action.kind) actions))

abbrev pub places_data : List Output → Data
places_data outputs = array (items_of (map (λ output. string output.place) outputs))

-- for a task with these actions and outputs
abbrev pub made_object : Path → Bool → Data → Data → Data
made_object path default actions outputs =
    object (member (codes "actions") actions
    (member (codes "default") (boolean default)
    (member (codes "outputs") outputs
    (member (codes "task") (string path) no_members))))

-- for a task that cannot be read
abbrev pub fault_object : Path → Bool → List ℕ → Data
fault_object path default text =
    object (member (codes "default") (boolean default)
    (member (codes "fault") (string text)
    (member (codes "task") (string path) no_members)))

-- for a task: the kinds of its actions and the places that it makes, or its fault
abbrev pub declared_object : Path → Bool → Option (Result TaskDeclaration Fault) → Data
declared_object path default (Some (Ok task)) =
    made_object path default (kinds_data task.actions) (places_data task.outputs)
declared_object path default (Some (Err fault)) = fault_object path default (fault_text fault)
declared_object path default None = made_object path default (kinds_data []) (places_data [])

abbrev pub task_object : Registry → Path → Data
task_object registry path =
    declared_object path (is_default registry.default_tasks path) (declaration_at registry path)

-- exactly the registered tasks, in the order of registration
abbrev pub tasks_data : Registry → Data
tasks_data registry = array (items_of (map (task_object registry) (paths_of registry)))
