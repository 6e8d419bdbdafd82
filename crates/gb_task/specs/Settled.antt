-- What is decided of a task's execution before anything is changed.
use Rattle.std.specs.Prelude.{ℕ, ◌≡◌, ◌≢◌, ◌||◌, Bool, true, false, not, [], Result, Ok, Err, None, Some}
use Rattle.std.specs.Prelude.{IsTrue, ⊤}
use Rattle.std.specs.List.{list_any}
use Rattle.gb_folder.specs.Files.{Contents, HasRisen, Place, is_empty}
use Rattle.gb_history.specs.declared.decide.Decision.TheVariants as decisions
use Rattle.gb_label.specs.Looking.{lacks_source}
use Rattle.gb_label.specs.Preparing.{IsReadFor, IsObservedFor}
use Rattle.gb_label.specs.declared.prepare.Prepared.{Prepared}
use Rattle.gb_label.specs.declared.prepare.Prepared.TheVariants as prepared
use Rattle.gb_label.specs.Reading.{is_input_of}
use Rattle.gb_semantics.specs.Events.{Setting, own_files, rules_in}
use Rattle.gb_semantics.specs.Label.{HasNoSource, Moment, early_case}
use Rattle.gb_semantics.specs.Outline.{MayAnswer, PrintsNothing}
use Rattle.gb_semantics.specs.Execution.{StartedExecution}
use Rattle.gb_plan.specs.Graph.{Plan}
use Rattle.gb_plan.specs.Task.{Path, is_output_of}
use Rattle.gb_plan.specs.declared.task.TaskDeclaration.{TaskDeclaration as Task}
use Rattle.gb_report.specs.Outcome.{is_started}
use Rattle.gb_report.specs.declared.fault.Fault.{Fault}
use Rattle.gb_report.specs.declared.fault.Fault.TheVariants as faults
use Rattle.gb_report.specs.declared.report.Options.{Options}
use Rattle.gb_report.specs.declared.report.Outcome.{Outcome}
use Rattle.gb_report.specs.declared.report.Outcome.TheVariants as outcomes
use Rattle.gb_report.specs.declared.report.TaskReport.{TaskReport}
use Rattle.gb_task.specs.Case.{IsCaseFor}
use Rattle.gb_task.specs.Executions.{IsRunFor}
use Rattle.gb_task.specs.declared.before_changes.Settled.{Settled}
use Rattle.gb_task.specs.declared.before_changes.Settled.TheVariants as settled

-- the outcome that is reported for a task without actions
abbrev pub idle_outcome : Bool → Outcome
idle_outcome true = outcomes.Executed
idle_outcome false = outcomes.UpToDate

-- a report of the task without a line
abbrev pub silent_report : Task → Path → Outcome → TaskReport
silent_report task path outcome =
    record { path = path; outcome = outcome; has_actions = not (is_empty task.actions); lines = [] }

-- what is decided by what an execution was prepared for
abbrev pub settled_as : Task → Path → Result Prepared Fault → Bool → Settled
settled_as task path (Err fault) need = settled.Reported (silent_report task path (outcomes.Failed fault))
settled_as task path (Ok prepared.Skips) need = settled.Reported (silent_report task path outcomes.Skipped)
settled_as task path (Ok prepared.HasNoActions) need =
    settled.Reported (silent_report task path (idle_outcome need))
settled_as task path (Ok prepared.HasNoSource) need = settled.Sourceless path
settled_as task path (Ok (prepared.Decided decisions.UpToDate basis observed)) need =
    settled.Reported (silent_report task path outcomes.UpToDate)
settled_as task path (Ok (prepared.Decided decision basis observed)) need = settled.Due path decision observed

-- A report is of the task, has no line, and says that the task was started. It attributes a fault to the
-- device only if the device failed meanwhile. A task that is reported as executed here has no actions, and
-- none is reported as one without source. A task without source has a property that skips it; and a task that
-- is due is not up to date, and has a source.
abbrev pub IsOfTask : Task → ℕ → ℕ → Settled → Type 0
IsOfTask task before after (settled.Reported report) =
    (report.path ≡ task.path) × (report.has_actions ≡ not (is_empty task.actions)) × (report.lines ≡ [])
    × ((place : Place) → report.outcome ≡ outcomes.Failed (faults.Device place)
    → HasRisen before after × IsTrue (is_input_of task place || is_output_of task place))
    × IsTrue (is_started report.outcome)
    × (report.outcome ≡ outcomes.Executed → is_empty task.actions ≡ true)
    × (report.outcome ≢ outcomes.NoSource)
IsOfTask task before after (settled.Sourceless path) =
    (path ≡ task.path) × (list_any (λ property. property.skip_when_empty) task.files ≡ true)
IsOfTask task before after (settled.Due path decision observed) =
    (path ≡ task.path) × (decision ≢ decisions.UpToDate) × IsReadFor task observed decision
    × (lacks_source task.files observed.inputs.items ≡ false)

-- the whole execution is reported, with this outcome
abbrev pub IsReportedAs : Outcome → Settled → Type 0
IsReportedAs outcome (settled.Reported report) = report.outcome ≡ outcome
IsReportedAs outcome other = ⊥

-- a task that is skipped, or has no actions, is reported as such; the contract says nothing of others
abbrev pub AnswersAlone : Bool → Bool → Bool → Settled → Type 0
AnswersAlone false idle need result = IsReportedAs outcomes.Skipped result
AnswersAlone true true need result = IsReportedAs (idle_outcome need) result
AnswersAlone true false need result = ⊤

-- the same for the outcome of a whole execution
abbrev pub IsAnsweredAlone : Bool → Bool → Bool → Outcome → Type 0
IsAnsweredAlone false idle need outcome = outcome ≡ outcomes.Skipped
IsAnsweredAlone true true need outcome = outcome ≡ idle_outcome need
IsAnsweredAlone true false need outcome = ⊤

-- a report of a task that runs and has actions has an outcome that is possible for it
abbrev pub ReportsAnswer : Options → Task → Settled → Type 0
ReportsAnswer options task (settled.Reported report) =
    task.runs ≡ true → is_empty task.actions ≡ false → MayAnswer options task report.outcome
ReportsAnswer options task other = ⊤

-- the same for a whole execution, which prints nothing where its outcome leaves no choice
pub record IsAnswer (options : Options) (task : Task) (report : TaskReport) : Type 0 where
  pub lines : PrintsNothing report.outcome report
  pub answer : task.runs ≡ true → is_empty task.actions ≡ false → MayAnswer options task report.outcome

-- A report is the result of the task's execution, which changes nothing; a result without a report is the
-- task's case.
abbrev pub SettlesExecution : Setting → Options → Plan → Task → Moment → Contents → ℕ → Settled → Type 0
SettlesExecution setting options plan task moment old after (settled.Reported report) =
    StartedExecution (rules_in setting (own_files old) options plan) moment task report
    (record { world = moment.world; failures = after })
SettlesExecution setting options plan task moment old after (settled.Sourceless path) =
    early_case task moment.world.folder ≡ Some HasNoSource
SettlesExecution setting options plan task moment old after (settled.Due path decision observed) =
    (early_case task moment.world.folder ≡ None) × IsCaseFor setting.kinds options task moment.world decision
    × IsRunFor setting.kinds options task moment.world decision
    × IsObservedFor task old.files observed decision
