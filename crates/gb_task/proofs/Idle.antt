-- The execution of a task, decided by what it was prepared for.
use Rattle.std.specs.Prelude.{ℕ, ◌≡◌, ◌≢◌, ◌||◌, ◌&&◌, Bool, true, false, not, List, [], if◌then◌else◌, Option, None, Some, Result, Ok, Err, OnErr, IfOk, IfErr, IsTrue}
use Rattle.std.specs.List.{list_any}
use Rattle.std.proofs.Common.{refl, sym, ap, subst, ◌∙◌, inl, inr}
use Rattle.gb_task.specs.Case.{IsCaseOf, IsKnown, OutsideIsEnough, PreparedIsCase}
use Rattle.gb_task.specs.Executions.{IdleExecutionsAreExecutions, IsIdleExecution, RunsAreOfCase}
use Rattle.gb_core.specs.Lists.{first_of}
use Rattle.gb_folder.specs.Files.{Place, Bytes, Contents, Files, HasRisen, file_at, is_empty, is_own}
use Rattle.gb_history.specs.Record.{Record}
use Rattle.gb_history.specs.declared.decide.Decision.TheVariants as decisions
use Rattle.gb_label.specs.Looking.{IsHindered}
use Rattle.gb_label.specs.Preparing.{IsPrepared, IsRead, IsObserved, MayPrepare}
use Rattle.gb_label.specs.declared.prepare.Prepared.{Prepared}
use Rattle.gb_label.specs.declared.prepare.Prepared.TheVariants as prepared
use Rattle.gb_semantics.specs.Events.{Setting, ExistsInRun, is_touched_by, may_occur, own_files, rules_in}
use Rattle.gb_semantics.specs.Label.{CannotRead, Early, HasNoActions, HasNoSource, IsOutcomeAt, Moment, Skips, early_case, some_outcome}
use Rattle.gb_semantics.specs.TrueRecord.{outside}
use Rattle.gb_semantics.specs.Execution.{ByMachine, Cause, FailedRunLeaves, FailedRunPrints, FailureLeaves, FailurePrints, WorldState as Exists, StartedExecution, cause_of}
use Rattle.gb_plan.specs.Graph.{Plan, needs_in}
use Rattle.gb_plan.specs.Task.{Path, is_output_of}
use Rattle.gb_plan.specs.declared.task.Output.{Output}
use Rattle.gb_plan.specs.declared.task.TaskDeclaration.{TaskDeclaration as Task}
use Rattle.gb_plan.proofs.Tests.{not_false, not_true}
use Rattle.gb_report.specs.Outcome.{is_executed, is_failed, is_started}
use Rattle.gb_report.specs.declared.fault.Fault.{Fault}
use Rattle.gb_report.specs.declared.fault.Fault.TheVariants as faults
use Rattle.gb_report.specs.declared.report.Options.{Options}
use Rattle.gb_report.specs.declared.report.Outcome.{Outcome}
use Rattle.gb_report.specs.declared.report.Outcome.TheVariants as outcomes
use Rattle.gb_label.specs.Reading.{is_input_of}
use Rattle.gb_task.specs.Settled.{AnswersAlone, IsOfTask, SettlesExecution, idle_outcome, settled_as, silent_report}
use Rattle.gb_task.proofs.Outside.{early_outside}
use Rattle.gb_task.proofs.DueExecutions.{same_fault}

same_outcome : (idle : Bool) → idle_outcome idle ≡ (if idle then outcomes.Executed else outcomes.UpToDate)
same_outcome true = refl
same_outcome false = refl

not_failed : (fault : Fault) (outcome : Outcome) → is_failed outcome ≡ false → outcome ≡ outcomes.Failed fault → ⊥
not_failed fault outcome none is = not_true (sym none ∙ ap is_failed is)

module _ (setting : Setting) (own : Files) (options : Options) (plan : Plan) (task : Task) (path : Path) (moment : Moment) (after : ℕ) where
  -- the state, unchanged
  abbrev unchanged : Exists
  unchanged = record { world = moment.world; failures = after }

  idle_started : (outcome : Outcome) → IsIdleExecution setting.kinds options plan task moment outcome
      → StartedExecution (rules_in setting own options plan) moment task (silent_report task path outcome) unchanged
  idle_started outcome idle = record {
    label = inl idle.label;
    leaves = idle.leaves;
    prints = idle.prints;
    reading = λ place is at. refl;
    begun = λ fault is printed. not_false printed;
  }

  fails_by_machine : (fault : Fault) → cause_of fault ≡ ByMachine → may_occur setting own options task moment unchanged fault
      → StartedExecution (rules_in setting own options plan) moment task (silent_report task path (outcomes.Failed fault)) unchanged
  fails_by_machine fault machine may = record {
    label = inr (fault, may, refl);
    leaves = leaves_for (early_case task moment.world.folder);
    prints = prints_for (early_case task moment.world.folder);
    reading = λ place is at. refl;
    begun = λ other is printed. not_false printed;
  }
    where
      leaves_for : (early : Option Early) → FailureLeaves setting.kinds options task fault moment.world moment.world early
      leaves_for (Some Skips) = refl
      leaves_for (Some HasNoActions) = refl
      leaves_for (Some (CannotRead hindrances)) = refl
      leaves_for (Some HasNoSource) = inl refl
      leaves_for None = subst (λ (cause : Cause). FailedRunLeaves setting.kinds options task fault moment.world moment.world cause) (sym machine) ((λ _. refl), inl refl)

      prints_for : (early : Option Early) → FailurePrints setting.kinds options task moment.world [] fault early
      prints_for (Some Skips) = refl
      prints_for (Some HasNoActions) = refl
      prints_for (Some (CannotRead hindrances)) = refl
      prints_for (Some HasNoSource) = refl
      prints_for None = subst (λ (cause : Cause). FailedRunPrints setting.kinds options task moment.world [] cause) (sym machine) (inl refl)

  fails_unread : (fault : Fault) (hindrances : List Fault) → early_case task moment.world.folder ≡ Some (CannotRead hindrances) → first_of hindrances ≡ Some fault
      → StartedExecution (rules_in setting own options plan) moment task (silent_report task path (outcomes.Failed fault)) unchanged
  fails_unread fault hindrances case first = record {
    label = inl (subst (λ (early : Option Early). IsOutcomeAt setting.kinds options plan task moment early (outcomes.Failed fault)) (sym case) (fault, first, refl));
    leaves = subst (λ (early : Option Early). FailureLeaves setting.kinds options task fault moment.world moment.world early) (sym case) refl;
    prints = subst (λ (early : Option Early). FailurePrints setting.kinds options task moment.world [] fault early) (sym case) refl;
    reading = λ place is at. refl;
    begun = λ other is printed. not_false printed;
  }

module _ (setting : Setting) (options : Options) (plan : Plan) (task : Task) (path : Path) (moment : Moment) (old : Contents) (before after : ℕ) (need : Bool) (read : Option Record)
    (out : list_any (λ (o : Output). is_own o.place) task.outputs ≡ false) (folder : moment.world.folder ≡ outside old) (count : moment.failures ≡ before)
    (needed : some_outcome is_executed moment (needs_in plan task) ≡ need) (known : IsKnown setting.kinds task moment.world read)
    (is_enough : OutsideIsEnough) (is_case : PreparedIsCase) (are_executions : IdleExecutionsAreExecutions) (are_runs : RunsAreOfCase) where
  case_of : (found : Prepared) → IsPrepared options task old read found → IsCaseOf setting.kinds options task moment.world found
  case_of found prepared_so =
      is_case setting.kinds options task moment.world read found known
      (subst (λ (c : Contents). IsPrepared options task c read found) (sym folder) (is_enough options task old read found out prepared_so))

  touched : (place : Place) → task.runs ≡ true → is_empty task.actions ≡ false → (is_input_of task place || is_output_of task place) ≡ true → is_touched_by task place ≡ true
  touched place runs acts e = λ i. (runs i && not (acts i)) && e i

  exists_still : (files : Files) (place : Place) (left : Option Bytes) → left ≡ file_at files place → ExistsInRun setting.kinds task files place left
  exists_still files place None is = tt
  exists_still files place (Some bytes) is = inl (sym is)

  hindered : (fault : Fault) → IsHindered task old before after fault → (task.runs ≡ true) × (is_empty task.actions ≡ false)
      → ((place : Place) → fault ≡ faults.Device place → (is_input_of task place || is_output_of task place) ≡ true)
      → StartedExecution (rules_in setting (own_files old) options plan) moment task (silent_report task path (outcomes.Failed fault)) (record { world = moment.world; failures = after })
  hindered fault (inl (inl memory)) goes blamed =
      fails_by_machine setting (own_files old) options plan task path moment after fault (ap cause_of memory)
      (subst (λ (f : Fault). may_occur setting (own_files old) options task moment (record { world = moment.world; failures = after }) f) (sym memory) tt)
  hindered fault (inl (inr device)) goes blamed =
      fails_by_machine setting (own_files old) options plan task path moment after fault (ap cause_of device.1)
      (subst (λ (f : Fault). may_occur setting (own_files old) options task moment (record { world = moment.world; failures = after }) f) (sym device.1)
      (subst (λ n. HasRisen n after) (sym count) device.2, touched device.0 goes.0 goes.1 (blamed device.0 device.1), inl (exists_still moment.world.folder.files device.0 (file_at moment.world.folder.files device.0) refl)))
  hindered fault (inr cannot) goes blamed =
      fails_unread setting (own_files old) options plan task path moment after fault cannot.0
      (ap (early_case task) folder ∙ early_outside task old ∙ cannot.1) cannot.2

  pub settles : (result : Result Prepared Fault) → IfOk result (IsPrepared options task old read) → IfOk result (IsObserved task old.files) → IfErr result (IsHindered task old before after)
      → OnErr result ((task.runs ≡ true) × (is_empty task.actions ≡ false))
      → ((place : Place) → result ≡ Err (faults.Device place) → (is_input_of task place || is_output_of task place) ≡ true)
      → SettlesExecution setting options plan task moment old after (settled_as task path result need)
  settles (Err fault) prepared_so exists_so cannot goes blamed = hindered fault cannot goes (λ place e. blamed place (ap Err e))
  settles (Ok prepared.Skips) prepared_so exists_so cannot goes blamed =
      idle_started setting (own_files old) options plan task path moment after outcomes.Skipped
      (are_executions setting.kinds options plan task moment prepared.Skips outcomes.Skipped (case_of prepared.Skips prepared_so) refl)
  settles (Ok prepared.HasNoActions) prepared_so exists_so cannot goes blamed =
      idle_started setting (own_files old) options plan task path moment after (idle_outcome need)
      (are_executions setting.kinds options plan task moment prepared.HasNoActions (idle_outcome need) (case_of prepared.HasNoActions prepared_so)
      (same_outcome need ∙ ap (λ (b : Bool). if b then outcomes.Executed else outcomes.UpToDate) (sym needed)))
  settles (Ok prepared.HasNoSource) prepared_so exists_so cannot goes blamed = case_of prepared.HasNoSource prepared_so
  settles (Ok (prepared.Decided decisions.UpToDate basis observed)) prepared_so exists_so cannot goes blamed =
      idle_started setting (own_files old) options plan task path moment after outcomes.UpToDate
      (are_executions setting.kinds options plan task moment (prepared.Decided decisions.UpToDate basis observed) outcomes.UpToDate (case_of (prepared.Decided decisions.UpToDate basis observed) prepared_so) refl)
  settles (Ok (prepared.Decided (decisions.Incremental changes) basis observed)) prepared_so exists_so cannot goes blamed =
      let case = case_of (prepared.Decided (decisions.Incremental changes) basis observed) prepared_so in
      (case.0, case.1, are_runs setting.kinds options task moment.world (decisions.Incremental changes) (λ e. absurd (let d = e in (cc))) case.1, exists_so)
  settles (Ok (prepared.Decided decisions.Full basis observed)) prepared_so exists_so cannot goes blamed =
      let case = case_of (prepared.Decided decisions.Full basis observed) prepared_so in
      (case.0, case.1, are_runs setting.kinds options task moment.world decisions.Full (λ e. absurd (let d = e in (cc))) case.1, exists_so)

-- ---- over any folder

module _ (task : Task) (path : Path) (is_path : path ≡ task.path) (before after : ℕ) (need : Bool) where
  silent : (outcome : Outcome) → is_failed outcome ≡ false → (place : Place) → outcome ≡ outcomes.Failed (faults.Device place)
      → HasRisen before after × IsTrue (is_input_of task place || is_output_of task place)
  silent outcome none place is = absurd (not_failed (faults.Device place) outcome none is)

  failed_idly : (b : Bool) → is_failed (idle_outcome b) ≡ false
  failed_idly true = refl
  failed_idly false = refl

  started_idly : (b : Bool) → is_started (idle_outcome b) ≡ true
  started_idly true = refl
  started_idly false = refl

  has_source : (b : Bool) → idle_outcome b ≢ outcomes.NoSource
  has_source true e = cc
  has_source false e = cc

  pub of_task : (result : Result Prepared Fault) → IfOk result (MayPrepare task) → IfOk result (IsRead task)
      → ((place : Place) → result ≡ Err (faults.Device place) → HasRisen before after)
      → ((place : Place) → result ≡ Err (faults.Device place) → (is_input_of task place || is_output_of task place) ≡ true)
      → IsOfTask task before after (settled_as task path result need)
  of_task (Err fault) may read_so rises blamed =
      (is_path, refl, refl, λ place is. (rises place (ap Err (same_fault fault (faults.Device place) is)), blamed place (ap Err (same_fault fault (faults.Device place) is))), refl, (λ e. absurd (let d = e in (cc))), λ e. cc)
  of_task (Ok prepared.Skips) may read_so rises blamed = (is_path, refl, refl, silent outcomes.Skipped refl, refl, (λ e. absurd (let d = e in (cc))), λ e. cc)
  of_task (Ok prepared.HasNoActions) may read_so rises blamed = (is_path, refl, refl, silent (idle_outcome need) (failed_idly need), started_idly need, (λ e. may.1), has_source need)
  of_task (Ok prepared.HasNoSource) may read_so rises blamed = (is_path, may.2)
  of_task (Ok (prepared.Decided decisions.UpToDate basis observed)) may read_so rises blamed = (is_path, refl, refl, silent outcomes.UpToDate refl, refl, (λ e. absurd (let d = e in (cc))), λ e. cc)
  of_task (Ok (prepared.Decided (decisions.Incremental changes) basis observed)) may read_so rises blamed = (is_path, (λ e. absurd (let d = e in (cc))), read_so, may.2)
  of_task (Ok (prepared.Decided decisions.Full basis observed)) may read_so rises blamed = (is_path, (λ e. absurd (let d = e in (cc))), read_so, may.2)

  pub alone : (result : Result Prepared Fault) → IfOk result (MayPrepare task) → OnErr result ((task.runs ≡ true) × (is_empty task.actions ≡ false))
      → AnswersAlone task.runs (is_empty task.actions) need (settled_as task path result need)
  alone result may goes = by task.runs (is_empty task.actions) refl refl
    where
      by : (runs idle : Bool) → task.runs ≡ runs → is_empty task.actions ≡ idle → AnswersAlone runs idle need (settled_as task path result need)
      by true false r a = tt
      by true true r a = acts_none result may goes
        where
          acts_none : (p : Result Prepared Fault) → IfOk p (MayPrepare task) → OnErr p ((task.runs ≡ true) × (is_empty task.actions ≡ false))
              → AnswersAlone true true need (settled_as task path p need)
          acts_none (Err fault) may goes = not_true (sym goes.1 ∙ a)
          acts_none (Ok prepared.Skips) may goes = not_true (sym may ∙ r)
          acts_none (Ok prepared.HasNoActions) may goes = refl
          acts_none (Ok prepared.HasNoSource) may goes = not_true (sym may.1 ∙ a)
          acts_none (Ok (prepared.Decided decisions.UpToDate basis observed)) may goes = not_true (sym may.1 ∙ a)
          acts_none (Ok (prepared.Decided (decisions.Incremental changes) basis observed)) may goes = not_true (sym may.1 ∙ a)
          acts_none (Ok (prepared.Decided decisions.Full basis observed)) may goes = not_true (sym may.1 ∙ a)
      by false idle r a = skips result may goes
        where
          skips : (p : Result Prepared Fault) → IfOk p (MayPrepare task) → OnErr p ((task.runs ≡ true) × (is_empty task.actions ≡ false))
              → AnswersAlone false idle need (settled_as task path p need)
          skips (Err fault) may goes = not_true (sym r ∙ goes.0)
          skips (Ok prepared.Skips) may goes = refl
          skips (Ok prepared.HasNoActions) may goes = not_true (sym r ∙ may.0)
          skips (Ok prepared.HasNoSource) may goes = not_true (sym r ∙ may.0)
          skips (Ok (prepared.Decided decisions.UpToDate basis observed)) may goes = not_true (sym r ∙ may.0)
          skips (Ok (prepared.Decided (decisions.Incremental changes) basis observed)) may goes = not_true (sym r ∙ may.0)
          skips (Ok (prepared.Decided decisions.Full basis observed)) may goes = not_true (sym r ∙ may.0)
