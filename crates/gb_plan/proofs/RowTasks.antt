-- The tasks of the worked rows.
use Rattle.std.specs.Prelude.{ℕ, true, false, List, [], ◌∷◌, Ok, codes}
use Rattle.gb_core.specs.declared.value.Value.{Value}
use Rattle.gb_core.specs.declared.value.Value.TheVariants.{Text}
use Rattle.gb_action.specs.declared.output_files.Form.TheVariants as forms
use Rattle.gb_tree.specs.declared.property.Naming.TheVariants.{Relative}
use Rattle.gb_folder.specs.Files.{Place}
use Rattle.gb_plan.specs.declared.plan.Planned.{Planned}
use Rattle.gb_plan.specs.declared.task.Action.{Action}
use Rattle.gb_plan.specs.declared.task.FileProperty.{FileProperty}
use Rattle.gb_plan.specs.declared.task.Output.{Output}
use Rattle.gb_plan.specs.declared.task.TaskDeclaration.{TaskDeclaration}
use Rattle.gb_plan.specs.Task.{Path, bare}
use Rattle.gb_plan.specs.Graph.{Plan, Registry}

abbrev pub asks : List ℕ → List Value → Action
asks kind args = record { kind = kind; version = 1; args = args }

abbrev pub action : List ℕ → List ℕ → Action
action kind text = asks kind (Text text ∷ [])

-- a task without files and outputs
abbrev pub plain : Path → List Action → List Path → List Path → TaskDeclaration
plain path actions needs finalizers =
    record (bare path true) { actions = actions; needs = needs; finalizers = finalizers }

abbrev pub planned : TaskDeclaration → ℕ → Planned
planned task word = record { task = task; word = word; is_selected = true }

abbrev pub to_file : Place → Output
to_file place = record { name = codes "out"; form = forms.File; place = place }

abbrev pub to_folder : Place → Output
to_folder place = record { name = codes "out"; form = forms.Dir; place = place }

abbrev pub from_place : Place → FileProperty
from_place place = record {
  name = codes "src";
  incremental = false;
  skip_when_empty = false;
  naming = Relative;
  roots = place ∷ [];
  include = [];
  exclude = [];
}

-- writes `build/x`
abbrev pub a : TaskDeclaration
a = record (bare (codes ":a") true) {
  outputs = to_file (codes "build/x") ∷ [];
  actions = action (codes "writeText") (codes "A") ∷ [];
}

-- a second task, with these files and outputs, that does this
abbrev pub second_with : List FileProperty → List Output → List ℕ → List Path → List Path → TaskDeclaration
second_with files outputs kind needs must_run_after = record (bare (codes ":b") true) {
  files = files;
  outputs = outputs;
  actions = asks kind [] ∷ [];
  needs = needs;
  must_run_after = must_run_after;
}

-- reads a place and writes an output
abbrev pub b : Place → Output → List Path → List Path → TaskDeclaration
b place output needs must_run_after =
    second_with (from_place place ∷ []) (output ∷ []) (codes "concat") needs must_run_after

-- reads what `:a` writes
abbrev pub reads_x : List Path → List Path → TaskDeclaration
reads_x needs must_run_after = b (codes "build/x") (to_file (codes "build/y")) needs must_run_after

abbrev pub two : TaskDeclaration → Plan
two second = planned a 0 ∷ planned second 1 ∷ []

-- ---- A need with a finalizer, the task after it, and another task

abbrev pub p : TaskDeclaration
p = plain (codes ":p") (action (codes "printLine") (codes "p") ∷ []) [] []

abbrev pub bad : TaskDeclaration
bad = plain (codes ":bad") (action (codes "fail") (codes "boom") ∷ []) [] (codes ":fin" ∷ [])

abbrev pub fin : TaskDeclaration
fin = plain (codes ":fin") (action (codes "printLine") (codes "fin") ∷ []) [] []

abbrev pub q : TaskDeclaration
q = plain (codes ":q") (action (codes "printLine") (codes "q") ∷ []) (codes ":bad" ∷ []) []

abbrev pub registry : Registry
registry = record {
  projects = codes ":" ∷ [];
  tasks = (codes ":p", Ok p) ∷ (codes ":bad", Ok bad) ∷ (codes ":fin", Ok fin) ∷ (codes ":q", Ok q) ∷ [];
  default_tasks = [];
}
