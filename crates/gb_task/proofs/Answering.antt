-- The outcome of a task's execution, over any folder.
use Rattle.std.specs.Prelude.{◌≡◌, Bool, true, false, [], Result, Ok, Err, IfOk}
use Rattle.std.specs.List.{list_any}
use Rattle.std.proofs.Common.{sym, subst, ◌∙◌}
use Rattle.gb_folder.specs.Files.{is_empty}
use Rattle.gb_history.specs.declared.decide.Decision.TheVariants as decisions
use Rattle.gb_label.specs.Preparing.{MayDecideAs, MayPrepare}
use Rattle.gb_label.specs.declared.prepare.Prepared.{Prepared}
use Rattle.gb_label.specs.declared.prepare.Prepared.TheVariants as prepared
use Rattle.gb_semantics.specs.Outline.{MayAnswer, PrintsNothing}
use Rattle.gb_plan.specs.Task.{Path}
use Rattle.gb_plan.specs.declared.task.TaskDeclaration.{TaskDeclaration as Task}
use Rattle.gb_plan.proofs.Tests.{not_true}
use Rattle.gb_report.specs.declared.fault.Fault.{Fault}
use Rattle.gb_report.specs.declared.report.Options.{Options}
use Rattle.gb_report.specs.declared.report.Outcome.{Outcome}
use Rattle.gb_report.specs.declared.report.Outcome.TheVariants as outcomes
use Rattle.gb_report.specs.declared.report.TaskReport.{TaskReport}
use Rattle.gb_task.specs.Settled.{IsAnswer, ReportsAnswer, settled_as}
use Rattle.gb_task.specs.Executing.{IsReportedOf, cleared_outcome, outcome_of}

-- a report without a line prints nothing
no_lines : (outcome : Outcome) (report : TaskReport) → report.lines ≡ [] → PrintsNothing outcome report
no_lines outcomes.Executed report none = tt
no_lines outcomes.UpToDate report none = none
no_lines outcomes.Skipped report none = none
no_lines outcomes.NoSource report none = none
no_lines (outcomes.Failed fault) report none = tt
no_lines outcomes.NotRun report none = none

module _ (options : Options) (task : Task) where
  pub faithful : (path : Path) (need : Bool) (result : Result Prepared Fault) → IfOk result (MayPrepare task) → IfOk result (MayDecideAs options task)
      → ReportsAnswer options task (settled_as task path result need)
  faithful path need (Err fault) may decides = λ runs acts. tt
  faithful path need (Ok prepared.Skips) may decides = λ runs acts. not_true (sym may ∙ runs)
  faithful path need (Ok prepared.HasNoActions) may decides = λ runs acts. not_true (sym acts ∙ may.1)
  faithful path need (Ok prepared.HasNoSource) may decides = tt
  faithful path need (Ok (prepared.Decided decisions.UpToDate basis observed)) may decides = λ runs acts. decides
  faithful path need (Ok (prepared.Decided (decisions.Incremental changes) basis observed)) may decides = tt
  faithful path need (Ok (prepared.Decided decisions.Full basis observed)) may decides = tt

  pub reported_answers : (report : TaskReport) → report.lines ≡ [] → (task.runs ≡ true → is_empty task.actions ≡ false → MayAnswer options task report.outcome)
      → IsAnswer options task report
  reported_answers report none answer = record { lines = no_lines report.outcome report none; answer = answer }

  pub cleared_answers : (report : TaskReport) → report.lines ≡ [] → list_any (λ property. property.skip_when_empty) task.files ≡ true
      → IsReportedOf cleared_outcome report.outcome → IsAnswer options task report
  cleared_answers report none skips ended = record { lines = no_lines report.outcome report none; answer = λ runs acts. answer ended.0 ended.1 }
    where
      answer : (result : Result (Unit {0}) Fault) → report.outcome ≡ cleared_outcome result → MayAnswer options task report.outcome
      answer (Ok done) is = subst (MayAnswer options task) (sym is) skips
      answer (Err fault) is = subst (MayAnswer options task) (sym is) tt

  pub run_answers : (report : TaskReport) → IsReportedOf outcome_of report.outcome → IsAnswer options task report
  run_answers report ended = by ended.0 ended.1
    where
      by : (result : Result (Unit {0}) Fault) → report.outcome ≡ outcome_of result → IsAnswer options task report
      by (Ok done) is = record {
        lines = subst (λ (outcome : Outcome). PrintsNothing outcome report) (sym is) tt;
        answer = λ runs acts. subst (MayAnswer options task) (sym is) tt;
      }
      by (Err fault) is = record {
        lines = subst (λ (outcome : Outcome). PrintsNothing outcome report) (sym is) tt;
        answer = λ runs acts. subst (MayAnswer options task) (sym is) tt;
      }
