-- A task's execution, over a folder whose contents are known.
use Rattle.std.specs.Prelude.{ℕ, ◌≡◌, not, Bool, ◌||◌, List, Result, Ok, Err, None, Some, is_some}
use Rattle.gb_action.specs.Changes.{Changes}
use Rattle.gb_folder.specs.Files.{Contents, Files, Place, Tearing, is_empty}
use Rattle.gb_history.specs.Places.{record_place}
use Rattle.gb_history.specs.Record.{Record}
use Rattle.gb_semantics.specs.Events.{Setting, own_files, rules_in}
use Rattle.gb_semantics.specs.Kinds.{Kinds, Name}
use Rattle.gb_semantics.specs.Label.{IsCurrent, IsIncremental, Moment, changes_from, early_case}
use Rattle.gb_semantics.specs.Memory.{Memory, World, recalled}
use Rattle.gb_semantics.specs.TrueRecord.{IsMade, outside}
use Rattle.gb_semantics.specs.Execution.{StartedExecution}
use Rattle.gb_plan.specs.Graph.{Plan, Registry}
use Rattle.gb_plan.specs.Task.{Text, is_output_of}
use Rattle.gb_plan.specs.declared.task.TaskDeclaration.{TaskDeclaration as Task}
use Rattle.gb_records.specs.Setting.{setting_by}
use Rattle.gb_records.specs.Holding.{HoldsRecords}
use Rattle.gb_report.specs.declared.fault.Fault.{Fault}
use Rattle.gb_report.specs.declared.report.Options.{Options}
use Rattle.gb_report.specs.declared.report.Outcome.{Outcome}
use Rattle.gb_report.specs.declared.report.Outcome.TheVariants as outcomes
use Rattle.gb_report.specs.declared.report.TaskReport.{TaskReport}
use Rattle.gb_folder.specs.Changes.{is_at}
use Rattle.gb_task.specs.Case.{IsKnown}

-- what scripts declare, as a function of the files
abbrev pub Registering : Type 0
Registering = Files → List (Name × Text) → Result Registry Fault

-- what a build is about, where what scripts declare is a function of the files
abbrev pub setting_with : Kinds → Registering → Tearing → Setting
setting_with kinds registry_of may_leave =
    setting_by kinds (λ files properties said. registry_of files properties ≡ said) may_leave

-- the place is at an output of the task, or that of its record
abbrev pub is_of_execution : Task → Place → Bool
is_of_execution task place = is_output_of task place || is_at (record_place task.path) place

-- ---- Before the execution

-- The execution begins at this moment: its world is the folder without the tool's own files, with the memory
-- whose records exist there; and something is remembered of the task just where a record was read.
pub record BeginsAt (task : Task) (was_read : Bool) (old : Contents) (before : ℕ)
    (moment : Moment) : Type 0 where
  pub folder : moment.world.folder ≡ outside old
  pub failures : moment.failures ≡ before
  pub records : HoldsRecords old.files moment.world.memory
  pub read : is_some (recalled moment.world.memory task.path) ≡ was_read

-- a full run is due: no early case applies, and the task is neither current nor incremental
pub record IsDue (kinds : Kinds) (options : Options) (task : Task) (world : World) : Type 0 where
  pub case : early_case task world.folder ≡ None
  pub not_current : ¬ IsCurrent options task world
  pub not_incremental : ¬ IsIncremental kinds options task world

-- A run by these changes is due: no early case applies, the task is not current, and they are the changes
-- since what is remembered of it, which is true.
pub record IsDueByChanges (kinds : Kinds) (options : Options) (task : Task) (world : World)
    (changes : List Changes) : Type 0 where
  pub case : early_case task world.folder ≡ None
  pub not_current : ¬ IsCurrent options task world
  pub since : IsIncremental kinds options task world
  pub is_made : IsMade kinds since.entry
  pub are_changes : changes ≡ changes_from task since.entry.inputs world.folder.files

-- The task runs incrementally by its record: no early case applies, the task is not current, and what is
-- remembered, with this record, differs from what the task has only in incremental properties.
pub record IsToGoOn (kinds : Kinds) (options : Options) (task : Task) (world : World)
    (last : Record) : Type 0 where
  pub case : early_case task world.folder ≡ None
  pub not_current : ¬ IsCurrent options task world
  pub since : IsIncremental kinds options task world
  pub known : IsKnown kinds task world (Some last)

-- ---- After the execution

abbrev pub outcome_of : Result (Unit {0}) Fault → Outcome
outcome_of (Ok done) = outcomes.Executed
outcome_of (Err fault) = outcomes.Failed fault

-- the outcome reported for a task without source, by the result of deleting its record and outputs
abbrev pub cleared_outcome : Result (Unit {0}) Fault → Outcome
cleared_outcome (Ok done) = outcomes.NoSource
cleared_outcome (Err fault) = outcomes.Failed fault

-- the outcome is the one that is reported for some result
abbrev pub IsReportedOf : (Result (Unit {0}) Fault → Outcome) → Outcome → Type 0
IsReportedOf reported outcome = (ended : Result (Unit {0}) Fault) × (outcome ≡ reported ended)

-- the report of a run with this result and these lines
abbrev pub report_of : Task → Result (Unit {0}) Fault → List Text → TaskReport
report_of task result lines = record {
  path = task.path;
  outcome = outcome_of result;
  has_actions = not (is_empty task.actions);
  lines = lines;
}

-- This was the task's execution, from one folder to another, and the records of what is remembered after it
-- exist.
pub record HasExecuted (setting : Setting) (options : Options) (plan : Plan) (task : Task) (moment : Moment)
    (report : TaskReport) (old : Contents) (after : ℕ) (new : Contents) : Type 0 where
  pub memory : Memory
  pub execution : StartedExecution (rules_in setting (own_files old) options plan) moment task report
      (record { world = record { folder = outside new; memory = memory }; failures = after })
  pub records : HoldsRecords new.files memory
