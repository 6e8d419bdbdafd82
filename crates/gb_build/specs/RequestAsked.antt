-- The calls that a build makes, over any folder.
use Rattle.std.specs.Prelude.{◌≡◌, false, List, Option, Result, Ok, Err}
use Rattle.std.specs.List.{AllZip}
use Rattle.gb_action.specs.Meanings.{Meanings}
use Rattle.gb_exec.specs.Asking.{ExecutionsRequest}
use Rattle.gb_folder.specs.Calls.{Requests, no_change, Device}
use Rattle.gb_history.specs.Record.{Record}
use Rattle.gb_semantics.specs.Outline.{IsOutlinedBy}
use Rattle.gb_semantics.specs.declared.events.Invocation.{Invocation}
use Rattle.gb_plan.specs.Graph.{Plan, Registry, order}
use Rattle.gb_plan.specs.Ready.{Rows}
use Rattle.gb_records.specs.Answered.{WasAnswered}
use Rattle.gb_report.specs.declared.fault.Fault.{Fault}
use Rattle.gb_report.specs.declared.report.Options.{Options}
use Rattle.gb_report.specs.declared.report.Report.{Report}
use Rattle.gb_report.specs.declared.report.TaskReport.{TaskReport}

-- First no change is requested, and calls return these records of the plan's tasks, except in a dry run. From
-- there on the tasks are executed, each by its record and its report. What is up to date is found so on what
-- calls return from there on.
pub record PlanRequests {F S : Type 0} (device : Device F) (meanings : Meanings S) (rows : Rows S)
    (options : Options) (plan : Plan) (reports : List TaskReport)
    (old new : F) : Type 0 where
  pub records : List (Option Record)
  pub begun : F
  pub first : Requests device no_change old begun
  pub answered : options.dry_run ≡ false
      → AllZip (WasAnswered device old begun) (order plan) records
  pub executions : ExecutionsRequest device meanings rows options plan records reports
      begun begun new

-- a refused build requests no change; another makes the calls of its plan
abbrev pub BuildRequests : {F S : Type 0} → Device F → Meanings S
    → Rows S
    → Registry → Invocation → Result Report Fault → F → F → Type 0
BuildRequests device meanings rows registry invocation (Err fault) old new =
    Requests device no_change old new
BuildRequests device meanings rows registry invocation (Ok report) old new =
    (by : IsOutlinedBy registry invocation report)
    × PlanRequests device meanings rows invocation.options by.plan report.tasks old new
