-- The evaluated form of a declared task, part by part.
use Rattle.std.specs.Prelude.{ℕ, ◌≡◌, Bool, not, ◌&&◌, List, Option, Result, Ok}
use Rattle.std.specs.List.{list_all}
use Rattle.gb_core.specs.declared.value.Value.{Value}
use Rattle.gb_plan.specs.declared.task.Action.{Action}
use Rattle.gb_plan.specs.declared.task.FileProperty.{FileProperty}
use Rattle.gb_plan.specs.declared.task.Output.{Output}
use Rattle.gb_plan.specs.declared.task.TaskDeclaration.{TaskDeclaration}
use Rattle.gb_registry.specs.Projects.{Path}
use Rattle.gb_registry.specs.Said.{Registered}
use Rattle.gb_registry.specs.Source.{Source}
use Rattle.gb_registry.specs.Tables.{Tables}
use Rattle.gb_script.specs.Tree.{Tree}
use Rattle.gb_script.specs.declared.script.Call.{Call}
use Rattle.gb_script.specs.declared.script.Condition.{Condition}
use Rattle.gb_script.specs.declared.script.InputFiles.{InputFiles}
use Rattle.gb_declare.specs.Joined.{Joined, Made, Named}
use Rattle.gb_declare.specs.Realised.{Trouble, action_of, and_then, each_of, files_under, is_enabled}
use Rattle.gb_declare.specs.Realised.{output_under, passes, value_under}
use Rattle.gb_declare.specs.Whole.{build_folder, spots, whole}
use Rattle.gb_project.specs.declared.parts.Contents.{Contents}
use Rattle.gb_project.specs.declared.parts.Flags.{Flags}

-- the task at a path, of a project with this build folder
abbrev pub IsBuiltIn : Path → List ℕ → Registered → Type 0
IsBuiltIn path build at = (at.path ≡ path) × (build_folder at.project ≡ build)

module _ {M F Z S A : Type 0} (tables : Tables M F Z S A) (source : Source) (at : Registered) where
  -- no `enabled`, or one that is true
  abbrev pub enabled_of : Option Tree → Result Bool Trouble
  enabled_of enabled = is_enabled tables source at (spots tables source) (whole tables source) enabled

  -- whether all of these conditions hold, each of them evaluated
  abbrev pub all_hold : List Condition → Result Bool Trouble
  all_hold conditions =
      and_then (each_of (passes tables source at (spots tables source) (whole tables source)) conditions)
      (λ truths. Ok (list_all (λ truth. truth) truths))

  abbrev pub values_of : List (Named Tree) → Result (List (Named Value)) Trouble
  values_of values = each_of (value_under tables source at (spots tables source) (whole tables source)) values

  abbrev pub files_of : List (Named InputFiles) → Result (List FileProperty) Trouble
  files_of files = each_of (files_under tables source at (spots tables source) (whole tables source)) files

  abbrev pub outputs_of : List (Named Made) → Result (List Output) Trouble
  outputs_of outputs =
      each_of (output_under tables source at (spots tables source) (whole tables source)) outputs

  abbrev pub actions_of : List Call → Result (List Action) Trouble
  actions_of calls = each_of (action_of tables source at (spots tables source) (whole tables source)) calls

  -- whether it runs, and whether it is out of date by `upToDateWhen`
  abbrev pub flags_of : Joined → Result Flags Trouble
  flags_of task =
      and_then (enabled_of task.enabled) (λ enabled.
      and_then (all_hold task.only_if) (λ passed.
      and_then (all_hold task.up_to_date_when) (λ fresh.
      Ok (record { runs = enabled && passed; is_stale = not fresh }))))

  -- what it reads, makes and does
  abbrev pub contents_of : Joined → Result Contents Trouble
  contents_of task =
      and_then (values_of task.values) (λ values.
      and_then (files_of task.files) (λ files.
      and_then (outputs_of task.outputs) (λ outputs.
      and_then (actions_of task.actions) (λ actions.
      Ok (record { values = values; files = files; outputs = outputs; actions = actions })))))

-- a task as a build runs it, from its parts
abbrev pub declaration_of : Path → Joined → Flags → Contents → List Path → TaskDeclaration
declaration_of path task flags contents needs = record {
  path = path;
  runs = flags.runs;
  is_stale = flags.is_stale;
  values = contents.values;
  files = contents.files;
  outputs = contents.outputs;
  actions = contents.actions;
  needs = needs;
  must_run_after = task.must_run_after;
  finalizers = task.finalizers;
}
