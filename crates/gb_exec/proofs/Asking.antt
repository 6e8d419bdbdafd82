-- What the executions of a plan's tasks request together.
use Rattle.std.specs.Prelude.{◌≡◌, ◌||◌, ◌++◌, Bool, true, false, List, [], ◌∷◌, Option, length}
use Rattle.std.proofs.Common.{refl, sym, ap, subst, arith}
use Rattle.gb_action.specs.Meanings.{Meanings}
use Rattle.gb_folder.specs.Calls.{Requests, changes_at, no_change, Device}
use Rattle.gb_folder.specs.Files.{Place}
use Rattle.gb_folder.proofs.Asked.{requests_more, requests_nothing, requests_then, change_at}
use Rattle.gb_history.specs.Record.{Record}
use Rattle.gb_semantics.specs.Execution.{dry_reports}
use Rattle.gb_plan.specs.Ready.{Rows}
use Rattle.gb_plan.specs.Task.{Text}
use Rattle.gb_plan.specs.declared.plan.Planned.{Planned}
use Rattle.gb_plan.specs.declared.task.TaskDeclaration.{TaskDeclaration as Task}
use Rattle.gb_report.specs.declared.report.Options.{Options}
use Rattle.gb_report.specs.declared.report.Outcome.{Outcome}
use Rattle.gb_report.specs.declared.report.Outcome.TheVariants as outcomes
use Rattle.gb_report.specs.declared.report.TaskReport.{TaskReport}
use Rattle.gb_task.specs.Executing.{is_of_execution}
use Rattle.gb_task.proofs.ByOutcome.{execution_places}
use Rattle.gb_tree.specs.DigestCache.{AreCached, CachedFile}
use Rattle.gb_tree.proofs.Remembering.{none_seen}
use Rattle.gb_exec.specs.Asking.{ExecutionsRequest}
use Rattle.gb_exec.specs.Building.{is_of_executions}
use Rattle.gb_task.specs.ByOutcome.{ExecutionRequests, since_after}

right : (a b : Bool) → b ≡ true → (a || b) ≡ true
right true b e = refl
right false b e = e

module _ {F S : Type 0} (device : Device F) (meanings : Meanings S) (rows : Rows S) (options : Options) where
  -- ---- One execution more

  -- the executions, with the state of the last change in them
  abbrev pub ExecutionsUntil : List Planned → List (Option Record) → List TaskReport → F → F → F → F → Type 0
  ExecutionsUntil [] [] [] since old last new = (new ≡ old) × (last ≡ since)
  ExecutionsUntil (planned ∷ plan) (read ∷ records) (report ∷ reports) since old last new =
      (mid : F) × ExecutionRequests device meanings rows options planned.task read report.outcome report.lines since old mid
      × ExecutionsUntil plan records reports (since_after report.outcome since mid) mid last new
  ExecutionsUntil plan records reports since old last new = ⊥

  pub executions_until : (plan : List Planned) (records : List (Option Record)) (reports : List TaskReport) (since old last new : F)
      → ExecutionsUntil plan records reports since old last new → ExecutionsRequest device meanings rows options plan records reports since old new
  executions_until [] [] [] since old last new executions = executions.0
  executions_until (p ∷ plan) (l ∷ records) (r ∷ reports) since old last new executions =
      (executions.0, executions.1, executions_until plan records reports (since_after r.outcome since executions.0) executions.0 last new executions.2)
  executions_until [] [] (r ∷ reports) since old last new executions = absurd executions
  executions_until [] (l ∷ records) reports since old last new executions = absurd executions
  executions_until (p ∷ plan) [] reports since old last new executions = absurd executions
  executions_until (p ∷ plan) (l ∷ records) [] since old last new executions = absurd executions

  pub executions_more : (plan : List Planned) (records : List (Option Record)) (reports : List TaskReport) (planned : Planned) (read : Option Record) (report : TaskReport) (since old last mid new : F)
      → ExecutionsUntil plan records reports since old last mid
      → ExecutionRequests device meanings rows options planned.task read report.outcome report.lines last mid new
      → ExecutionsUntil (plan ++ planned ∷ []) (records ++ read ∷ []) (reports ++ report ∷ []) since old (since_after report.outcome last new) new
  executions_more [] [] [] planned read report since old last mid new executions execution = (
    new,
    subst (λ (f : F). ExecutionRequests device meanings rows options planned.task read report.outcome report.lines f old new) executions.1
        (subst (λ (f : F). ExecutionRequests device meanings rows options planned.task read report.outcome report.lines last f new) executions.0 execution),
    (refl, ap (λ (f : F). since_after report.outcome f new) executions.1),
  )
  executions_more (p ∷ plan) (l ∷ records) (r ∷ reports) planned read report since old last mid new executions execution = (
    executions.0,
    executions.1,
    executions_more plan records reports planned read report (since_after r.outcome since executions.0) executions.0 last mid new executions.2 execution,
  )
  executions_more [] [] (r ∷ reports) planned read report since old last mid new executions execution = absurd executions
  executions_more [] (l ∷ records) reports planned read report since old last mid new executions execution = absurd executions
  executions_more (p ∷ plan) [] reports planned read report since old last mid new executions execution = absurd executions
  executions_more (p ∷ plan) (l ∷ records) [] planned read report since old last mid new executions execution = absurd executions

  -- after an execution no change was requested since the last one
  pub none_since : (task : Task) (read : Option Record) (outcome : Outcome) (lines : List Text) (last mid new : F) → Requests device no_change last mid
      → ExecutionRequests device meanings rows options task read outcome lines last mid new
      → Requests device no_change (since_after outcome last new) new
  none_since task read outcomes.NotRun lines last mid new before requests = subst (λ (f : F). Requests device no_change last f) (sym requests) before
  none_since task read outcomes.Skipped lines last mid new before requests = requests_then before requests
  none_since task read outcomes.UpToDate lines last mid new before requests = requests_then before requests.0
  none_since task read outcomes.NoSource lines last mid new before requests = requests_nothing new
  none_since task read outcomes.Executed lines last mid new before requests = requests_nothing new
  none_since task read (outcomes.Failed fault) lines last mid new before requests = requests_nothing new

  -- The executions so far, from a state of the folder to another; what is remembered was read since the last change
  -- in them.
  pub record AreSoFar (plan : List Planned) (records : List (Option Record)) (reports : List TaskReport) (old new : F) (seen : List CachedFile) : Type 0 where
    pub last : F
    pub executions : ExecutionsUntil plan records reports old old last new
    pub none : Requests device no_change last new
    pub were : AreCached device last new seen

  pub none_so_far : (old : F) (seen : List CachedFile) → seen ≡ [] → AreSoFar [] [] [] old old seen
  none_so_far old seen none = record { last = old; executions = (refl, refl); none = requests_nothing old; were = none_seen device old old seen none }

  pub more_so_far : (plan : List Planned) (records : List (Option Record)) (reports : List TaskReport) (old mid : F) (seen : List CachedFile) (far : AreSoFar plan records reports old mid seen)
      (planned : Planned) (read : Option Record) (report : TaskReport) (new : F) (now : List CachedFile)
      → ExecutionRequests device meanings rows options planned.task read report.outcome report.lines far.last mid new
      → AreCached device (since_after report.outcome far.last new) new now
      → AreSoFar (plan ++ planned ∷ []) (records ++ read ∷ []) (reports ++ report ∷ []) old new now
  more_so_far plan records reports old mid seen far planned read report new now execution were = record {
    last = since_after report.outcome far.last new;
    executions = executions_more plan records reports planned read report old old far.last mid new far.executions execution;
    none = none_since planned.task read report.outcome report.lines far.last mid new far.none execution;
    were = were;
  }

  -- ---- Where changes are requested

  wider : (test wide : Place → Bool) → ((place : Place) → test place ≡ true → wide place ≡ true) → (old new : F) → Requests device (changes_at test) old new
      → Requests device (changes_at wide) old new
  unfolding changes_at
  wider test wide within old new requests = requests_more (λ place next may. change_at wide place next (within place may)) requests

  -- the executions request changes only at outputs and records of the plan's tasks
  pub executions_places : (plan : List Planned) (records : List (Option Record)) (reports : List TaskReport) (since old new : F)
      → ExecutionsRequest device meanings rows options plan records reports since old new → Requests device (changes_at (is_of_executions plan)) old new
  executions_places [] [] [] since old new executions = subst (λ (f : F). Requests device (changes_at (is_of_executions [])) old f) (sym executions) (requests_nothing old)
  executions_places (planned ∷ plan) (last ∷ records) (report ∷ reports) since old new executions =
      requests_then
      (wider (is_of_execution planned.task) (is_of_executions (planned ∷ plan)) (λ place e. ap (λ b. b || is_of_executions plan place) e) old executions.0
      (execution_places device meanings rows options planned.task last report.lines since old executions.0 report.outcome executions.1))
      (wider (is_of_executions plan) (is_of_executions (planned ∷ plan)) (λ place e. right (is_of_execution planned.task place) (is_of_executions plan place) e) executions.0 new
      (executions_places plan records reports (since_after report.outcome since executions.0) executions.0 new executions.2))
  executions_places [] [] (r ∷ reports) since old new executions = absurd executions
  executions_places [] (l ∷ records) reports since old new executions = absurd executions
  executions_places (p ∷ plan) [] reports since old new executions = absurd executions
  executions_places (p ∷ plan) (l ∷ records) [] since old new executions = absurd executions

  -- ---- A dry run

  pub dry_requests : (plan : List Planned) (records : List (Option Record)) (old : F) → length records ≡ length plan
      → ExecutionsRequest device meanings rows options plan records (dry_reports plan) old old old
  dry_requests [] [] old each = refl
  dry_requests (planned ∷ plan) (last ∷ records) old each = (old, requests_nothing old, dry_requests plan records old (omega (arith, each)))
  dry_requests [] (last ∷ records) old each = absurd (omega (arith, each))
  dry_requests (planned ∷ plan) [] old each = absurd (omega (arith, each))
