-- The calls that a build makes, from those of its parts.
use Rattle.std.specs.Prelude.{◌≡◌, List, Result, Err}
use Rattle.std.proofs.Common.{subst, sym}
use Rattle.gb_action.specs.Meanings.{Meanings}
use Rattle.gb_folder.specs.Calls.{Requests, no_change, Device}
use Rattle.gb_folder.proofs.Asked.{requests_nothing, requests_then}
use Rattle.gb_semantics.specs.declared.events.Invocation.{Invocation}
use Rattle.gb_plan.specs.Graph.{Plan, Registry, order}
use Rattle.gb_plan.specs.Ready.{Rows}
use Rattle.gb_records.proofs.Answering.{all_answered_longer}
use Rattle.gb_report.specs.declared.fault.Fault.{Fault}
use Rattle.gb_report.specs.declared.report.Options.{Options}
use Rattle.gb_report.specs.declared.report.Report.{Report}
use Rattle.gb_report.specs.declared.report.TaskReport.{TaskReport}
use Rattle.gb_build.specs.RequestAsked.{BuildRequests, PlanRequests}

module _ {F S : Type 0} {device : Device F} (meanings : Meanings S) (rows : Rows S) where
  -- a refused build
  pub refused_requests : (registry : Registry) (invocation : Invocation) (result : Result Report Fault) (fault : Fault) (old new : F) → result ≡ Err fault
      → Requests device no_change old new → BuildRequests device meanings rows registry invocation result old new
  refused_requests registry invocation result fault old new is requests =
      subst (λ (r : Result Report Fault). BuildRequests device meanings rows registry invocation r old new) (sym is) requests

  -- the calls that read before it belong to those of a build
  pub requests_before : (options : Options) (plan : Plan) (reports : List TaskReport) (first old new : F) → Requests device no_change first old
      → PlanRequests device meanings rows options plan reports old new → PlanRequests device meanings rows options plan reports first new
  requests_before options plan reports first old new before by = record {
    records = by.records;
    begun = by.begun;
    first = requests_then before by.first;
    answered = λ not_dry. all_answered_longer first old by.begun by.begun before (requests_nothing by.begun) (order plan) by.records (by.answered not_dry);
    executions = by.executions;
  }
