-- The tasks of a plan by number, and that they start by number as they start by path.
use Rattle.std.specs.Prelude.{ℕ, ◌≡◌, ◌<◌, ◌≤◌, ◌↔◌, ◌⊎◌, true, List, [], length, Contains, IsTrue}
use Rattle.std.specs.Prelude.{Some, slice_get, slice_index_or}
use Rattle.gb_semantics.specs.Label.{Moment, some_outcome}
use Rattle.gb_semantics.specs.Execution as meant
use Rattle.gb_plan.specs.declared.plan.Planned.{Planned}
use Rattle.gb_plan.specs.Task.{Path, has_path}
use Rattle.gb_plan.specs.Graph.{no_repeats, order, needs_in}
use Rattle.gb_report.specs.Outcome.{is_executed}
use Rattle.gb_report.specs.declared.report.Outcome.{Outcome}
use Rattle.gb_report.specs.declared.report.Options.{Options}
use Rattle.gb_exec.specs.declared.may_start.Ending.{Ending}
use Rattle.gb_exec.specs.declared.may_start.Ending.TheVariants.{ToCome}
use Rattle.gb_exec.specs.Starts.{Progress, DoesStart, ending_in, ending_of, has_executed_need, mark_at, row}

-- the path of the task of a number
abbrev pub path_at : List Planned → ℕ → Path
path_at plan number = slice_index_or (order plan) number []

-- Each row has the numbers of the tasks of the plan whose paths its task lists.
pub record GiveRows (paths : Planned → List Path) (plan : List Planned) (table : List (List ℕ)) : Type 0 where
  pub each : length table ≡ length plan
  pub reported : (task number : ℕ) (planned : Planned) → slice_get plan task ≡ Some planned →
      Contains (row table task) number
      ↔ ((number < length plan) × IsTrue (has_path (paths planned) (path_at plan number)))

abbrev pub needs_of : Planned → List Path
needs_of planned = planned.task.needs

abbrev pub finalizers_of : Planned → List Path
finalizers_of planned = planned.task.finalizers

-- a task of the plan needs that of the number
abbrev pub IsNeeded : List (List ℕ) → ℕ → Type 0
IsNeeded needs number = (later : ℕ) × Contains (row needs later) number

-- The numbers of a plan: its rows, and which of its tasks are wanted.
pub record AreOfPlan (plan : List Planned) (progress : Progress) : Type 0 where
  pub needs : GiveRows needs_of plan progress.needs
  pub finalizers : GiveRows finalizers_of plan progress.finalizers
  pub wanted : (number : ℕ) (planned : Planned) → slice_get plan number ≡ Some planned →
      IsTrue (mark_at progress.wanted number) ↔ (IsTrue planned.is_selected ⊎ IsNeeded progress.needs number)

-- The outcomes are those of the first tasks of the plan, and the endings are of these outcomes.
pub record AreEndings (plan : List Planned) (outcomes : List (Path × Outcome))
    (endings : List Ending) : Type 0 where
  pub ended : (number : ℕ) (entry : Path × Outcome) → slice_get outcomes number ≡ Some entry →
      (number < length plan) × (entry.0 ≡ path_at plan number)
      × (ending_in endings number ≡ ending_of entry.1)
  pub to_come : (number : ℕ) → length outcomes ≤ number → ending_in endings number ≡ ToCome

-- A task of a plan starts by its path exactly where it starts by its number.
abbrev pub StartsByNumber : Type 0
StartsByNumber =
    (options : Options) (plan : List Planned) (progress : Progress) (moment : Moment) (number : ℕ)
    (planned : Planned)
    → no_repeats (order plan) ≡ true → AreOfPlan plan progress
    → AreEndings plan moment.outcomes progress.endings
    → slice_get plan number ≡ Some planned →
    meant.DoesStart options plan moment planned ↔ DoesStart options.keep_going progress number

-- A need of a task was executed by its path exactly where one was by its number.
abbrev pub NeedsByNumber : Type 0
NeedsByNumber =
    (plan : List Planned) (progress : Progress) (moment : Moment) (number : ℕ) (planned : Planned)
    → no_repeats (order plan) ≡ true → AreOfPlan plan progress
    → AreEndings plan moment.outcomes progress.endings
    → slice_get plan number ≡ Some planned →
    some_outcome is_executed moment (needs_in plan planned.task) ≡ has_executed_need progress number
