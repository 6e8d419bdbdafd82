-- What follows for a task's execution from its case.
use Rattle.std.specs.Prelude.{◌≡◌, ◌≢◌, Bool, false, [], List, if◌then◌else◌}
use Rattle.gb_action.specs.Changes.{Changes}
use Rattle.gb_folder.specs.Files.{Files}
use Rattle.gb_history.specs.declared.decide.Decision.{Decision}
use Rattle.gb_history.specs.declared.decide.Decision.TheVariants as decisions
use Rattle.gb_label.specs.declared.prepare.Prepared.{Prepared}
use Rattle.gb_label.specs.declared.prepare.Prepared.TheVariants as prepared
use Rattle.gb_semantics.specs.Kinds.{Kinds}
use Rattle.gb_semantics.specs.Label.{AreChanges, IsCurrent, IsIncremental, IsOutcomeOf, Moment}
use Rattle.gb_semantics.specs.Label.{changes_from, has_one_writer, some_outcome}
use Rattle.gb_semantics.specs.Memory.{World}
use Rattle.gb_semantics.specs.Execution.{Leaves, Prints}
use Rattle.gb_plan.specs.Graph.{Plan, needs_in}
use Rattle.gb_plan.specs.declared.task.TaskDeclaration.{TaskDeclaration as Task}
use Rattle.gb_report.specs.Outcome.{is_executed, is_failed}
use Rattle.gb_report.specs.declared.report.Options.{Options}
use Rattle.gb_report.specs.declared.report.Outcome.{Outcome}
use Rattle.gb_report.specs.declared.report.Outcome.TheVariants as outcomes
use Rattle.gb_task.specs.Case.{IsCaseFor, IsCaseOf}

-- ---- Executions that change nothing

-- the outcome of an execution that has nothing to do; the others are left open
abbrev pub AnswersIdly : Plan → Moment → Task → Prepared → Outcome → Type 0
AnswersIdly plan moment task prepared.Skips outcome = outcome ≡ outcomes.Skipped
AnswersIdly plan moment task prepared.HasNoActions outcome =
    outcome ≡
    (if some_outcome is_executed moment (needs_in plan task) then outcomes.Executed else outcomes.UpToDate)
AnswersIdly plan moment task (prepared.Decided decisions.UpToDate basis observed) outcome =
    outcome ≡ outcomes.UpToDate
AnswersIdly plan moment task other outcome = ⊥

-- Its outcome is that of the rules, no failure; everything stays as it was, and no line is printed.
pub record IsIdleExecution (kinds : Kinds) (options : Options) (plan : Plan) (task : Task) (moment : Moment)
    (outcome : Outcome) : Type 0 where
  pub label : IsOutcomeOf kinds options plan task moment outcome
  pub leaves : Leaves kinds options task moment.world outcome moment.world
  pub prints : Prints kinds options task moment.world outcome []
  pub no_failure : is_failed outcome ≡ false

abbrev pub IdleExecutionsAreExecutions : Type 0
IdleExecutionsAreExecutions =
    (kinds : Kinds) (options : Options) (plan : Plan) (task : Task) (moment : Moment) (prepared : Prepared)
    (outcome : Outcome) → IsCaseOf kinds options task moment.world prepared
    → AnswersIdly plan moment task prepared outcome → IsIdleExecution kinds options plan task moment outcome

-- ---- Runs

-- a run is incremental where that is decided, and one action writes
abbrev pub is_by_changes : Kinds → Task → Decision → Bool
is_by_changes kinds task (decisions.Incremental changes) = has_one_writer kinds task.actions
is_by_changes kinds task other = false

-- the changes that a run's actions get: where it is not incremental, every path is added
abbrev pub reported_changes : Kinds → Task → Files → Decision → List Changes
reported_changes kinds task files (decisions.Incremental changes) =
    if has_one_writer kinds task.actions then changes else changes_from task [] files
reported_changes kinds task files other = changes_from task [] files

-- What holds of a run that is decided: the task is not current, these are the changes that its actions get,
-- and where the run is not by changes the task is not incremental.
pub record IsRunFor (kinds : Kinds) (options : Options) (task : Task) (world : World)
    (decision : Decision) : Type 0 where
  pub not_current : ¬ IsCurrent options task world
  pub changes : AreChanges kinds options task world (reported_changes kinds task world.folder.files decision)
  pub full : is_by_changes kinds task decision ≡ false → ¬ IsIncremental kinds options task world

abbrev pub RunsAreOfCase : Type 0
RunsAreOfCase =
    (kinds : Kinds) (options : Options) (task : Task) (world : World) (decision : Decision)
    → decision ≢ decisions.UpToDate → IsCaseFor kinds options task world decision
    → IsRunFor kinds options task world decision
