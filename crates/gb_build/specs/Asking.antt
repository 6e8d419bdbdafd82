-- What a build requires of the tasks that are registered, and what its report is of.
use Rattle.std.specs.Prelude.{◌≡◌, false, IfErr, IfOk}
use Rattle.std.specs.List.{AllByRecursion, AllZip}
use Rattle.gb_action.specs.Meanings.{Meanings}
use Rattle.gb_exec.specs.Reports.{IsOf}
use Rattle.gb_graph.specs.Answer.{IsPlanOf}
use Rattle.gb_semantics.specs.Headline.{is_of_device}
use Rattle.gb_semantics.specs.declared.events.Invocation.{Invocation}
use Rattle.gb_plan.specs.Graph.{Plan, Registry}
use Rattle.gb_plan.specs.Ready.{Rows}
use Rattle.gb_report.specs.declared.report.Report.{Report}
use Rattle.gb_task.specs.Buildable.{IsBuildable}

-- each task that is declared can be built with these actions
abbrev pub AreBuildable : {S : Type 0} → Meanings S → Rows S → Registry → Type 0
AreBuildable meanings rows registry =
    AllByRecursion (λ entry. IfOk entry.1 (IsBuildable meanings rows)) registry.tasks

-- no declaration has a fault of the device
abbrev pub NoneBlameDevice : Registry → Type 0
NoneBlameDevice registry =
    AllByRecursion (λ entry. IfErr entry.1 (λ fault. is_of_device fault ≡ false)) registry.tasks

-- the report has the tasks of the plan of what was requested, in its order
abbrev pub IsReportOf : Registry → Invocation → Report → Type 0
IsReportOf registry invocation report =
    (plan : Plan) × IsPlanOf registry invocation.requested invocation.excluded plan
    × AllZip IsOf plan report.tasks
