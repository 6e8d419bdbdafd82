-- What holds of the reports of a build over any folder, also one whose contents are not known.
use Rattle.std.specs.Prelude.{◌≡◌, Bool, false, true, not, ◌⊎◌, List, [], ◌∷◌, ◌++◌, IsTrue, Ok}
use Rattle.std.specs.List.{list_any}
use Rattle.gb_report.specs.declared.fault.Fault.TheVariants as faults
use Rattle.gb_report.specs.declared.report.Outcome.{Outcome}
use Rattle.gb_report.specs.declared.report.Outcome.TheVariants as outcomes
use Rattle.gb_report.specs.declared.report.Options.{Options}
use Rattle.gb_report.specs.declared.report.TaskReport.{TaskReport}
use Rattle.gb_folder.specs.Files.{is_empty}
use Rattle.gb_plan.specs.Task.{Path}
use Rattle.gb_plan.specs.declared.task.TaskDeclaration.{TaskDeclaration as Task}
use Rattle.gb_report.specs.declared.report.Report.{Report}
use Rattle.gb_semantics.specs.declared.events.Invocation.{Invocation}
use Rattle.gb_plan.specs.Refusal.{request_of}
use Rattle.gb_plan.specs.Graph.{Registry, Request, IsPlan, Plan, needs_in}
use Rattle.gb_plan.specs.declared.plan.Planned.{Planned}
use Rattle.gb_semantics.specs.Label.{Moment, some_outcome}
use Rattle.gb_report.specs.Outcome.{is_executed}
use Rattle.gb_semantics.specs.Execution.{DoesStart, dry_reports}

-- the moment by its outcomes alone; whether a task starts depends on nothing else
abbrev pub moment_by : List (Path × Outcome) → Moment
moment_by ended =
    record {
      world = record { folder = record { files = []; special = [] }; memory = [] };
      outcomes = ended;
      failures = 0;
    }

abbrev pub idle_outcome : Bool → Outcome
idle_outcome true = outcomes.Executed
idle_outcome false = outcomes.UpToDate

-- the lines that an outcome determines
abbrev pub PrintsNothing : Outcome → TaskReport → Type 0
PrintsNothing outcomes.Executed report = Unit {0}
PrintsNothing outcomes.UpToDate report = report.lines ≡ []
PrintsNothing outcomes.Skipped report = report.lines ≡ []
PrintsNothing outcomes.NoSource report = report.lines ≡ []
PrintsNothing (outcomes.Failed fault) report = Unit {0}
PrintsNothing outcomes.NotRun report = report.lines ≡ []

-- Which outcomes a started task with actions may have that is not skipped: up to date only with outputs,
-- without a false `upToDateWhen` or a requested rerun, and without source only where a property skips it.
abbrev pub MayAnswer : Options → Task → Outcome → Type 0
MayAnswer options task outcomes.Executed = Unit {0}
MayAnswer options task outcomes.UpToDate =
    (is_empty task.outputs ≡ false) × (task.is_stale ≡ false) × (options.rerun ≡ false)
MayAnswer options task outcomes.Skipped = ⊥
MayAnswer options task outcomes.NoSource = IsTrue (list_any (λ property. property.skip_when_empty) task.files)
MayAnswer options task (outcomes.Failed fault) = Unit {0}
MayAnswer options task outcomes.NotRun = ⊥

-- the outcome of a started task that is skipped, or has no actions: that of the rules, or out of memory;
-- for others, one that they may have
abbrev pub AnswersAlone : Options → Plan → Moment → Task → Bool → Bool → Outcome → Type 0
AnswersAlone options plan moment task false idle outcome =
    (outcome ≡ outcomes.Skipped) ⊎ (outcome ≡ outcomes.Failed faults.OutOfMemory)
AnswersAlone options plan moment task true true outcome =
    (outcome ≡ idle_outcome (some_outcome is_executed moment (needs_in plan task)))
    ⊎ (outcome ≡ outcomes.Failed faults.OutOfMemory)
AnswersAlone options plan moment task true false outcome = MayAnswer options task outcome

pub record IsOutline (options : Options) (plan : Plan) (moment : Moment) (planned : Planned)
    (report : TaskReport) : Type 0 where
  pub path : report.path ≡ planned.task.path
  pub has_actions : report.has_actions ≡ not (is_empty planned.task.actions)
  pub lines : PrintsNothing report.outcome report
  pub answer : (DoesStart options plan moment planned
      × AnswersAlone options plan moment planned.task planned.task.runs
      (is_empty planned.task.actions) report.outcome)
      ⊎ ((¬ DoesStart options plan moment planned) × (report.outcome ≡ outcomes.NotRun))

abbrev pub AreOutlines : Options → Plan → List (Path × Outcome) → List Planned → List TaskReport → Type 0
AreOutlines options plan ended [] [] = Unit {0}
AreOutlines options plan ended [] (report ∷ reports) = ⊥
AreOutlines options plan ended (planned ∷ rest) [] = ⊥
AreOutlines options plan ended (planned ∷ rest) (report ∷ reports) =
    IsOutline options plan (moment_by ended) planned report
    × AreOutlines options plan (ended ++ (report.path, report.outcome) ∷ []) rest reports

-- the reports of a build of the plan, whatever the folder is
abbrev pub Outlines : Options → Plan → List TaskReport → Type 0
Outlines options plan reports =
    (IsTrue options.dry_run × (reports ≡ dry_reports plan))
    ⊎ ((options.dry_run ≡ false) × AreOutlines options plan [] plan reports)

-- What holds of a report whatever the folder is: it is that of a build of the plan of the request to this
-- registry.
pub record IsOutlinedBy (registry : Registry) (invocation : Invocation) (report : Report) : Type 0 where
  pub request : Request
  pub asked : request_of registry invocation.requested invocation.excluded ≡ Ok request
  pub plan : Plan
  pub planned : IsPlan request plan
  pub dry_run : report.dry_run ≡ invocation.options.dry_run
  pub outlines : Outlines invocation.options plan report.tasks
