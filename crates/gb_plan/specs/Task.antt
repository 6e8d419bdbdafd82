-- Terms for the parts of a declared task: its places, and what actions are given of it.
pub use Rattle.gb_core.specs.Lists.{has_text as has_path}
use Rattle.std.specs.Prelude.{ℕ, ◌≡◌, Bool, true, false, List, [], map}
use Rattle.std.specs.List.{list_any, flat_map}
use Rattle.gb_core.specs.Place.{is_under}
use Rattle.gb_folder.specs.Files.{Place, is_empty}
use Rattle.gb_action.specs.declared.output_files.Form.{Form}
use Rattle.gb_plan.specs.declared.task.FileProperty.{FileProperty}
use Rattle.gb_plan.specs.declared.task.Output.{Output}
use Rattle.gb_plan.specs.declared.task.TaskDeclaration.{TaskDeclaration}

abbrev pub Text : Type 0
Text = List ℕ

-- the path of a task, as `:lib:gen`, or of a project, as `:lib`
abbrev pub Path : Type 0
Path = List ℕ

-- the roots of all file properties
abbrev pub roots_of : TaskDeclaration → List Place
roots_of task = flat_map (λ property. property.roots) task.files

abbrev pub output_places : TaskDeclaration → List Place
output_places task = map (λ output. output.place) task.outputs

-- the place lies at or under an output of the task
abbrev pub is_output_of : TaskDeclaration → Place → Bool
is_output_of task place = list_any (λ output. is_under place output.place) task.outputs

-- the names of file properties, as actions are given them
abbrev pub given_files : List FileProperty → List (List ℕ)
given_files files = map (λ property. property.name) files

-- the names and forms of outputs, as actions are given them
abbrev pub given_outputs : List Output → List (List ℕ × Form)
given_outputs outputs = map (λ output. (output.name, output.form)) outputs

-- a task without actions has no outputs
abbrev pub IsShaped : TaskDeclaration → Type 0
IsShaped task = is_empty task.actions ≡ true → is_empty task.outputs ≡ true

-- a task without values, files, outputs and actions, which needs and follows none
abbrev pub bare : Path → Bool → TaskDeclaration
bare path runs = record {
  path = path;
  runs = runs;
  is_stale = false;
  values = [];
  files = [];
  outputs = [];
  actions = [];
  needs = [];
  must_run_after = [];
  finalizers = [];
}
