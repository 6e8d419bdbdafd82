-- The execution of a task makes the calls that its outcome permits.
use Rattle.std.specs.Prelude.{◌≡◌, ◌≢◌, ◌⊎◌, [], true, Err, IsTrue, List, Ok, Option, Some, is_some}
use Rattle.std.proofs.Common.{refl, subst, sym, ap, ◌∙◌, inl, inr}
use Rattle.gb_action.specs.Changes.{Changes}
use Rattle.gb_action.specs.Meanings.{Meanings}
use Rattle.gb_folder.specs.Calls.{Requests, changes_at, no_change, Device}
use Rattle.gb_folder.specs.Files.{is_empty}
use Rattle.gb_folder.proofs.Asked.{requests_nothing, requests_reading, requests_then}
use Rattle.gb_history.specs.Record.{Record}
use Rattle.gb_history.specs.declared.decide.Decision.{Decision}
use Rattle.gb_history.specs.declared.decide.Decision.TheVariants as decisions
use Rattle.gb_semantics.specs.Headline.{Agrees}
use Rattle.gb_semantics.specs.Kinds.{Kinds}
use Rattle.gb_semantics.specs.Label.{has_one_writer}
use Rattle.gb_plan.specs.Ready.{Rows}
use Rattle.gb_plan.specs.Task.{Text}
use Rattle.gb_plan.specs.declared.task.TaskDeclaration.{TaskDeclaration as Task}
use Rattle.gb_report.specs.Outcome.{is_started}
use Rattle.gb_report.specs.declared.report.Options.{Options}
use Rattle.gb_report.specs.declared.report.Outcome.{Outcome}
use Rattle.gb_report.specs.declared.report.Outcome.TheVariants as outcomes
use Rattle.gb_run.specs.Doing.{Ending}
use Rattle.gb_task.specs.Asking.{HasRead, UnreadExecutionsKeep}
use Rattle.gb_task.specs.ByOutcome.{ExecutionRequests}
use Rattle.gb_task.specs.Current.{IsReportedCurrent}
use Rattle.gb_task.specs.Executing.{cleared_outcome, is_of_execution, outcome_of}
use Rattle.gb_task.specs.Executions.{is_by_changes}
use Rattle.gb_task.specs.Ran.{EndsAs, OnlyRead, RanFrom, WasCleared, WasRun}
use Rattle.gb_task.proofs.Places.{at_changes, at_clearing, at_full, done_places}

-- an incremental run has one writer
pub one_writer : (kinds : Kinds) (task : Task) (decision : Decision) (changes : List Changes) → decision ≡ decisions.Incremental changes → is_by_changes kinds task decision ≡ true
    → has_one_writer kinds task.actions ≡ true
one_writer kinds task decision changes is goes = ap (is_by_changes kinds task) (sym is) ∙ goes

module _ {F S : Type 0} (device : Device F) (meanings : Meanings S) (rows : Rows S) where
  -- a run from a record, where one action writes
  pub was_run : (task : Task) (options : Options) (last : Record) (lines : List Text) (result : Ending) (first new : F)
      → ((kinds : Kinds) → Agrees meanings rows kinds → IsTrue (has_one_writer kinds task.actions))
      → OnlyRead device lines result first new ⊎ RanFrom device meanings rows task options last lines result first new
      → OnlyRead device lines result first new ⊎ WasRun device meanings rows task options (Some last) lines result first new
  was_run task options last lines result first new one (inl only) = inl only
  was_run task options last lines result first new one (inr (inl in_full)) = inr (inl in_full)
  was_run task options last lines result first new one (inr (inr by)) = inr (inr (last, refl, one, by))

  module _ (options : Options) (task : Task) (last : Option Record) (lines : List Text) (since old new : F) where
    abbrev requests_by : Outcome → Type 0
    requests_by outcome = ExecutionRequests device meanings rows options task last outcome lines since old new

    abbrev Only : Ending → Type 0
    Only result = OnlyRead device lines result old new

    abbrev Cleared : Ending → Type 0
    Cleared result = WasCleared device task (is_some last) lines result old new

    abbrev Run : Ending → Type 0
    Run result = WasRun device meanings rows task options last lines result old new

    -- what is reported before anything is changed
    pub reported_requests : (outcome : Outcome) → lines ≡ [] → IsTrue (is_started outcome) → (outcome ≡ outcomes.Executed → is_empty task.actions ≡ true) → outcome ≢ outcomes.NoSource
        → Requests device no_change old new → IsReportedCurrent device options task last since new outcome → requests_by outcome
    reported_requests outcomes.NotRun silent started idle source requests current = absurd (let e = started in cc)
    reported_requests outcomes.Skipped silent started idle source requests current = requests
    reported_requests outcomes.UpToDate silent started idle source requests current = (requests, current)
    reported_requests outcomes.NoSource silent started idle source requests current = absurd (source refl)
    reported_requests outcomes.Executed silent started idle source requests current = inl (idle refl, requests)
    reported_requests (outcomes.Failed fault) silent started idle source requests current = inl (requests, silent, fault, refl)

    -- what runs
    pub ran_requests : (outcome : Outcome) → EndsAs (λ ended. Only ended ⊎ Run ended) outcome → requests_by outcome
    ran_requests outcome ends = subst requests_by (sym ends.1) (by ends.0 ends.2)
      where
        by : (ended : Ending) → Only ended ⊎ Run ended → requests_by (outcome_of ended)
        by (Ok done) (inl only) = absurd (let e = only.3 in (cc))
        by (Ok done) (inr ran) = inr ran
        by (Err fault) (inl only) = inl only
        by (Err fault) (inr ran) = inr (inr ran)

    -- a task without source that is cleared
    pub cleared_requests : (outcome : Outcome) (ended : Ending) → outcome ≡ cleared_outcome ended → Cleared ended → requests_by outcome
    cleared_requests outcome ended is cleared = subst requests_by (sym is) (by ended cleared)
      where
        by : (e : Ending) → Cleared e → requests_by (cleared_outcome e)
        by (Ok done) held = held
        by (Err fault) held = inr (inl held)

    -- ---- where changes are requested

    abbrev AtPlaces : Type 0
    AtPlaces = Requests device (changes_at (is_of_execution task)) old new

    cleared_places : (result : Ending) → Cleared result → AtPlaces
    cleared_places result cleared =
        requests_then (requests_reading cleared.1) (done_places device task _ (at_clearing device task (is_some last)) lines result cleared.0 new cleared.3)

    run_places : (result : Ending) → Run result → AtPlaces
    run_places result (inl full) =
        requests_then (requests_reading full.2.requests) (done_places device task _ (at_full device task meanings rows full.0 (is_some last)) lines result full.1 new full.3)
    run_places result (inr by) =
        let ran = by.3 in
        requests_then (requests_reading ran.4.requests) (done_places device task _ (at_changes device task meanings rows ran.0 ran.1 ran.2) lines result ran.3 new ran.6)

    -- an execution requests changes at the outputs and the record of its task alone
    pub execution_places : (outcome : Outcome) → requests_by outcome → AtPlaces
    execution_places outcomes.NotRun requests = subst (λ (f : F). Requests device (changes_at (is_of_execution task)) old f) (sym requests) (requests_nothing old)
    execution_places outcomes.Skipped requests = requests_reading requests
    execution_places outcomes.UpToDate requests = requests_reading requests.0
    execution_places outcomes.NoSource requests = cleared_places (Ok tt) requests
    execution_places outcomes.Executed (inl idle) = requests_reading idle.1
    execution_places outcomes.Executed (inr ran) = run_places (Ok tt) ran
    execution_places (outcomes.Failed fault) (inl only) = requests_reading only.0
    execution_places (outcomes.Failed fault) (inr (inl cleared)) = cleared_places (Err fault) cleared
    execution_places (outcomes.Failed fault) (inr (inr ran)) = run_places (Err fault) ran

    -- ---- what was read before

    abbrev Read : Type 0
    Read = HasRead device old task

    run_read : (result : Ending) → Run result → Read
    run_read result (inl full) = inl (full.0, full.1, full.2.inputs, full.2.named)
    run_read result (inr by) = let ran = by.3 in inl (ran.0, ran.3, ran.4.inputs, ran.4.named)

    pub unread_keeps : (outcome : Outcome) → ¬ Read → requests_by outcome → Requests device no_change old new
    unread_keeps outcomes.NotRun never requests = subst (λ (f : F). Requests device no_change old f) (sym requests) (requests_nothing old)
    unread_keeps outcomes.Skipped never requests = requests
    unread_keeps outcomes.UpToDate never requests = requests.0
    unread_keeps outcomes.NoSource never requests = absurd (never (inr (requests.0, requests.2)))
    unread_keeps outcomes.Executed never (inl idle) = idle.1
    unread_keeps outcomes.Executed never (inr ran) = absurd (never (run_read (Ok tt) ran))
    unread_keeps (outcomes.Failed fault) never (inl only) = only.0
    unread_keeps (outcomes.Failed fault) never (inr (inl cleared)) = absurd (never (inr (cleared.0, cleared.2)))
    unread_keeps (outcomes.Failed fault) never (inr (inr ran)) = absurd (never (run_read (Err fault) ran))

pub unread_executions_keep : {F S : Type 0} (device : Device F) (meanings : Meanings S) → UnreadExecutionsKeep device meanings
unread_executions_keep device meanings rows options task last outcome lines since old new never requests =
    unread_keeps device meanings rows options task last lines since old new outcome never requests
