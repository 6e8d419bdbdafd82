-- What holds of the reports of a build over any folder.
use Rattle.std.specs.Prelude.{◌≡◌, Bool, true, false, List, [], ◌∷◌, ◌++◌, map}
use Rattle.std.proofs.Common.{refl, sym, ap, subst, ◌∙◌, inl, inr, append_assoc, append-nil}
use Rattle.gb_folder.specs.Files.{is_empty}
use Rattle.gb_semantics.specs.Label.{Moment, some_outcome}
use Rattle.gb_semantics.specs.Outline.{AnswersAlone, AreOutlines, IsOutline, idle_outcome, moment_by}
use Rattle.gb_semantics.specs.Execution.{DoesStart}
use Rattle.gb_plan.specs.Graph.{Plan, needs_in}
use Rattle.gb_plan.specs.Task.{Path}
use Rattle.gb_plan.specs.declared.plan.Planned.{Planned}
use Rattle.gb_report.specs.Outcome.{is_executed}
use Rattle.gb_report.specs.declared.report.Options.{Options}
use Rattle.gb_report.specs.declared.report.Outcome.{Outcome}
use Rattle.gb_report.specs.declared.report.Outcome.TheVariants.{NotRun}
use Rattle.gb_report.specs.declared.report.TaskReport.{TaskReport}
use Rattle.gb_task.specs.Settled.{IsAnswer, IsAnsweredAlone}
use Rattle.gb_task.specs.Settled.{idle_outcome as reported_idly}
use Rattle.gb_exec.specs.Reports.{IsOf, report_with}
use Rattle.gb_exec.proofs.Underway.{outcome_in}

same_idle : (need : Bool) → reported_idly need ≡ idle_outcome need
same_idle true = refl
same_idle false = refl

module _ (options : Options) (plan : Plan) where
  pub outline_passed : (moment : Moment) (planned : Planned) (report : TaskReport) → report ≡ report_with NotRun planned
      → (¬ DoesStart options plan moment planned) → IsOutline options plan moment planned report
  outline_passed moment planned report is not_starts =
      subst (λ (r : TaskReport). IsOutline options plan moment planned r) (sym is)
      (record { path = refl; has_actions = refl; lines = refl; answer = inr (not_starts, refl) })

  pub outline_started : (moment : Moment) (planned : Planned) (report : TaskReport) (need : Bool) → IsOf planned report → DoesStart options plan moment planned
      → some_outcome is_executed moment (needs_in plan planned.task) ≡ need
      → IsAnsweredAlone planned.task.runs (is_empty planned.task.actions) need report.outcome → IsAnswer options planned.task report
      → IsOutline options plan moment planned report
  outline_started moment planned report need of_task starts needed alone answer = record {
    path = of_task.path;
    has_actions = of_task.has_actions;
    lines = answer.lines;
    answer = inl (starts, answers planned.task.runs (is_empty planned.task.actions) refl refl alone);
  }
    where
      answers : (runs idle : Bool) → planned.task.runs ≡ runs → is_empty planned.task.actions ≡ idle → IsAnsweredAlone runs idle need report.outcome
          → AnswersAlone options plan moment planned.task runs idle report.outcome
      answers false idle r a reported = inl reported
      answers true true r a reported = inl (reported ∙ same_idle need ∙ ap idle_outcome (sym needed))
      answers true false r a reported = answer.answer r a

  -- one report more
  pub outlines_more : (ended : List (Path × Outcome)) (prefix : List Planned) (planned : Planned) (done : List TaskReport) (report : TaskReport)
      → AreOutlines options plan ended prefix done → IsOutline options plan (moment_by (ended ++ map outcome_in done)) planned report
      → AreOutlines options plan ended (prefix ++ planned ∷ []) (done ++ report ∷ [])
  outlines_more ended [] planned [] report all here =
      (subst (λ (os : List (Path × Outcome)). IsOutline options plan (moment_by os) planned report) (append-nil ended) here, tt)
  outlines_more ended [] planned (r ∷ done) report all here = absurd all
  outlines_more ended (p ∷ prefix) planned [] report all here = absurd all
  outlines_more ended (p ∷ prefix) planned (r ∷ done) report all here = (
    all.0,
    outlines_more (ended ++ outcome_in r ∷ []) prefix planned done report all.1
        (subst (λ (os : List (Path × Outcome)). IsOutline options plan (moment_by os) planned report) (sym (append_assoc ended (outcome_in r ∷ []) (map outcome_in done))) here),
  )
