-- An execution that is decided first: what holds from the moment of the decision holds from the moment
-- before.
use Rattle.std.specs.Prelude.{ℕ, ◌≡◌, ◌≢◌, ◌≤◌, ◌⊎◌, Bool, true, false, is_some, List, Option, None, Some, Result, Ok, Err, IsTrue}
use Rattle.std.specs.Borrow.{Bor}
use Rattle.std.specs.Option.{option_copied}
use Rattle.std.proofs.Common.{refl, sym, ap, subst, ◌∙◌, inl, inr}
use Rattle.gb_folder.specs.Files.{Contents, Files, HasRisen, Place, Bytes, SameTearing, Tearing}
use Rattle.gb_folder.proofs.Changes.{HasRisen-before}
use Rattle.gb_action.specs.Changes.{Changes}
use Rattle.gb_task.specs.Case.{IsCaseFor, IsKnown}
use Rattle.gb_task.specs.Executions.{IsRunFor, is_by_changes}
use Rattle.gb_history.specs.Record.{Record}
use Rattle.gb_history.specs.declared.decide.Decision.{Decision}
use Rattle.gb_history.specs.declared.decide.Decision.TheVariants as decisions
use Rattle.gb_label.specs.Preparing.{IsReadFor, IsObservedFor}
use Rattle.gb_label.specs.declared.prepare.Observed.{Observed}
use Rattle.gb_semantics.specs.Events.{IsTornInRun, ExistsInRun, is_record_shut_out, is_record_too_long, may_occur, own_files, rules_in}
use Rattle.gb_semantics.specs.Kinds.{Kinds}
use Rattle.gb_semantics.specs.Label.{IsOutcomeOf, Moment, changes_from, early_case}
use Rattle.gb_semantics.specs.Memory.{Entry, World, recalled}
use Rattle.gb_semantics.specs.TrueRecord.{IsMade, outside}
use Rattle.gb_semantics.specs.Execution.{IsOfMachine, WorldState as Exists, StartedExecution}
use Rattle.gb_semantics.proofs.Common.{none_some}
use Rattle.gb_plan.specs.Graph.{Plan}
use Rattle.gb_plan.specs.declared.task.TaskDeclaration.{TaskDeclaration as Task}
use Rattle.gb_records.specs.Holding.{HoldsRecords}
use Rattle.gb_report.specs.Outcome.{is_started}
use Rattle.gb_report.specs.declared.fault.Fault.{Fault}
use Rattle.gb_report.specs.declared.fault.Fault.TheVariants as faults
use Rattle.gb_report.specs.declared.report.Options.{Options}
use Rattle.gb_report.specs.declared.report.Outcome.{Outcome}
use Rattle.gb_report.specs.declared.report.TaskReport.{TaskReport}
use Rattle.gb_label.specs.Reading.{AreInputs, AreInputsObserved, AreOutputs, AreOutputsObserved}
use Rattle.gb_task.specs.Settled.{AnswersAlone, IsAnsweredAlone}
use Rattle.gb_task.specs.Executing.{BeginsAt, HasExecuted, IsDue, IsDueByChanges, IsToGoOn, IsReportedOf, Registering, cleared_outcome, outcome_of, setting_with}
use Rattle.gb_task.specs.declared.before_changes.Settled.TheVariants as settled

-- ---- which run is due

pub due_in_full : (kinds : Kinds) (options : Options) (task : Task) (world : World) (decision : Decision) → early_case task world.folder ≡ None → IsRunFor kinds options task world decision
    → is_by_changes kinds task decision ≡ false → IsDue kinds options task world
due_in_full kinds options task world decision case runs none = record { case = case; not_current = runs.not_current; not_incremental = runs.full none }

-- without anything known of it a task has no incremental run
pub due_recheck : (kinds : Kinds) (options : Options) (task : Task) (world : World) (decision : Decision) → early_case task world.folder ≡ None → IsRunFor kinds options task world decision
    → IsKnown kinds task world None → IsDue kinds options task world
due_recheck kinds options task world decision case runs known = record { case = case; not_current = runs.not_current; not_incremental = λ since. none_some (sym known ∙ since.remembered) }

pub due_to_go_on : (kinds : Kinds) (options : Options) (task : Task) (world : World) (decision : Decision) (changes : List Changes) (last : Record) → decision ≡ decisions.Incremental changes
    → early_case task world.folder ≡ None → IsCaseFor kinds options task world decision → is_by_changes kinds task decision ≡ true
    → IsKnown kinds task world (Some last) → IsToGoOn kinds options task world last
due_to_go_on kinds options task world decision changes last is case case_for one known =
    by (subst (IsCaseFor kinds options task world) is case_for) (ap (is_by_changes kinds task) (sym is) ∙ one)
  where
    by : IsCaseFor kinds options task world (decisions.Incremental changes) → is_by_changes kinds task (decisions.Incremental changes) ≡ true → IsToGoOn kinds options task world last
    by so goes = record { case = case; not_current = so.0; since = (so.1 goes).0; known = known }

-- what is known of a task is true
pub known_made : (kinds : Kinds) (task : Task) (world : World) (read : Option Record) → IsKnown kinds task world read → (entry : Entry) → recalled world.memory task.path ≡ Some entry → IsMade kinds entry
known_made kinds task world None known entry is = none_some (sym known ∙ is)
known_made kinds task world (Some run) known entry is = subst (IsMade kinds) (same known.0 entry (sym known.1 ∙ is)) known.3.is_made
  where
    same : (one other : Entry) → Some one ≡ Some other → one ≡ other
    same one other e = cc

pub none_known : (kinds : Kinds) (task : Task) (world : World) (read : Option (Bor Record)) → ((run : Bor Record) → read ≡ Some run → ⊥) → IsKnown kinds task world (option_copied read)
    → IsKnown kinds task world None
none_known kinds task world None none known = known
none_known kinds task world (Some run) none known = absurd (none run refl)

-- a task that is to run incrementally is due by the changes since its record
pub due_since : (kinds : Kinds) (options : Options) (task : Task) (world : World) (last : Record) (goes : IsToGoOn kinds options task world last)
    → IsDueByChanges kinds options task world (changes_from task goes.since.entry.inputs world.folder.files)
due_since kinds options task world last goes = record {
  case = goes.case;
  not_current = goes.not_current;
  since = goes.since;
  is_made = known_made kinds task world (Some last) goes.known goes.since.entry goes.since.remembered;
  are_changes = refl;
}

-- ---- what was read

pub inputs_read : (task : Task) (observed : Observed) (decision : Decision) → decision ≢ decisions.UpToDate → IsReadFor task observed decision → AreInputs task observed.inputs.items
inputs_read task observed decisions.UpToDate due read = absurd (due refl)
inputs_read task observed (decisions.Incremental changes) due read = read.0
inputs_read task observed decisions.Full due read = read

pub inputs_exist : (task : Task) (files : Files) (observed : Observed) (decision : Decision) → decision ≢ decisions.UpToDate → IsObservedFor task files observed decision → AreInputsObserved task files observed.inputs.items
inputs_exist task files observed decisions.UpToDate due exists = absurd (due refl)
inputs_exist task files observed (decisions.Incremental changes) due exists = exists.0
inputs_exist task files observed decisions.Full due exists = exists

pub outputs_read : (task : Task) (observed : Observed) (decision : Decision) (changes : List Changes) → decision ≡ decisions.Incremental changes → IsReadFor task observed decision → AreOutputs task observed.outputs.items
outputs_read task observed decision changes is read = by (subst (IsReadFor task observed) is read)
  where
    by : IsReadFor task observed (decisions.Incremental changes) → AreOutputs task observed.outputs.items
    by so = so.1

pub outputs_exist : (task : Task) (files : Files) (observed : Observed) (decision : Decision) (changes : List Changes) → decision ≡ decisions.Incremental changes → IsObservedFor task files observed decision
    → AreOutputsObserved task files observed.outputs.items
outputs_exist task files observed decision changes is exists = by (subst (IsObservedFor task files observed) is exists)
  where
    by : IsObservedFor task files observed (decisions.Incremental changes) → AreOutputsObserved task files observed.outputs.items
    by so = so.1

-- ---- over any folder

pub reported_alone : (runs idle need : Bool) (report : TaskReport) → AnswersAlone runs idle need (settled.Reported report) → IsAnsweredAlone runs idle need report.outcome
reported_alone false idle need report so = so
reported_alone true true need report so = so
reported_alone true false need report so = tt

pub sourceless_alone : (runs idle need : Bool) (path : List ℕ) (outcome : Outcome) → AnswersAlone runs idle need (settled.Sourceless path) → IsAnsweredAlone runs idle need outcome
sourceless_alone false idle need path outcome so = absurd so
sourceless_alone true true need path outcome so = absurd so
sourceless_alone true false need path outcome so = tt

pub due_alone : (runs idle need : Bool) (path : List ℕ) (decision : Decision) (observed : Observed) (outcome : Outcome) → AnswersAlone runs idle need (settled.Due path decision observed)
    → IsAnsweredAlone runs idle need outcome
due_alone false idle need path decision observed outcome so = absurd so
due_alone true true need path decision observed outcome so = absurd so
due_alone true false need path decision observed outcome so = tt

-- what ended was started
pub run_started : (outcome : Outcome) → IsReportedOf outcome_of outcome → is_started outcome ≡ true
run_started outcome reported = subst (λ (o : Outcome). is_started o ≡ true) (sym reported.1) (by reported.0)
  where
    by : (ended : Result (Unit {0}) Fault) → is_started (outcome_of ended) ≡ true
    by (Ok done) = refl
    by (Err fault) = refl

pub cleared_started : (outcome : Outcome) → IsReportedOf cleared_outcome outcome → is_started outcome ≡ true
cleared_started outcome reported = subst (λ (o : Outcome). is_started o ≡ true) (sym reported.1) (by reported.0)
  where
    by : (ended : Result (Unit {0}) Fault) → is_started (cleared_outcome ended) ≡ true
    by (Ok done) = refl
    by (Err fault) = refl

-- ---- what is reported at once

pub reported_turned : (kinds : Kinds) (registry_of : Registering) (may_leave : Tearing) (options : Options) (plan : Plan) (task : Task) (was_read : Bool) (moment : Moment) (report : TaskReport)
    (old : Contents) (before after : ℕ) (new : Contents) → BeginsAt task was_read old before moment → new ≡ old
    → StartedExecution (rules_in (setting_with kinds registry_of may_leave) (own_files old) options plan) moment task report (record { world = moment.world; failures = after })
    → HasExecuted (setting_with kinds registry_of may_leave) options plan task moment report old after new
reported_turned kinds registry_of may_leave options plan task was_read moment report old before after new at same execution = record {
  memory = moment.world.memory;
  execution =
      subst (λ (world : World). StartedExecution (rules_in (setting_with kinds registry_of may_leave) (own_files old) options plan) moment task report (record { world = world; failures = after }))
      (ap (λ (folder : Contents). let world : World = record { folder = folder; memory = moment.world.memory } in world) (at.folder ∙ ap outside (sym same))) execution;
  records = subst (λ (folder : Contents). HoldsRecords folder.files moment.world.memory) (sym same) at.records;
}

-- ---- from a later moment

pub comes_later : (task : Task) (was_read : Bool) (old : Contents) (before : ℕ) (moment : Moment) (later : Contents) (mid : ℕ) → later ≡ old → BeginsAt task was_read old before moment
    → BeginsAt task was_read later mid (record { world = moment.world; outcomes = moment.outcomes; failures = mid })
comes_later task was_read old before moment later mid same at = record {
  folder = at.folder ∙ ap outside (sym same);
  failures = refl;
  records = subst (λ (folder : Contents). HoldsRecords folder.files moment.world.memory) (sym same) at.records;
  read = at.read;
}

module _ (kinds : Kinds) (registry_of : Registering) (first second : Tearing) (same : SameTearing first second) (options : Options) (plan : Plan) (task : Task) (moment : Moment) (mid : ℕ)
    (le : moment.failures ≤ mid) where
  abbrev pub later_moment : Moment
  later_moment = record { world = moment.world; outcomes = moment.outcomes; failures = mid }

  left_so : (place : Place) (left : Option Bytes)
      → ExistsInRun kinds task moment.world.folder.files place left ⊎ IsTornInRun (setting_with kinds registry_of second) task moment.world.folder.files place left
      → ExistsInRun kinds task moment.world.folder.files place left ⊎ IsTornInRun (setting_with kinds registry_of first) task moment.world.folder.files place left
  left_so place left (inl exists) = inl exists
  left_so place left (inr torn) = inr (torn.0, torn.1, torn.2, torn.3, (same place torn.0 torn.1 left).0 torn.4)

  written_so : (own : Files) (after : ℕ) → mid ≤ after
      → HasRisen mid after ⊎ IsTrue (is_record_shut_out (setting_with kinds registry_of second) own task.path) ⊎ IsTrue (is_record_too_long (setting_with kinds registry_of second) task moment.world.folder.files)
      → HasRisen moment.failures after ⊎ IsTrue (is_record_shut_out (setting_with kinds registry_of first) own task.path) ⊎ IsTrue (is_record_too_long (setting_with kinds registry_of first) task moment.world.folder.files)
  written_so own after rise (inl risen) = inl (HasRisen-before moment.failures mid after le rise risen)
  written_so own after rise (inr other) = inr other

  may_so : (own : Files) (new : Exists) (fault : Fault) → mid ≤ new.failures
      → may_occur (setting_with kinds registry_of second) own options task (record { world = moment.world; outcomes = moment.outcomes; failures = mid }) new fault
      → may_occur (setting_with kinds registry_of first) own options task moment new fault
  may_so own new faults.OutOfMemory rise may = tt
  may_so own new (faults.Device place) rise may = (HasRisen-before moment.failures mid new.failures le rise may.0, may.1, left_so place _ may.2)
  may_so own new faults.HistoryNotWritten rise may = (may.0, written_so own new.failures rise may.1)
  may_so own new (faults.BadName a) rise may = absurd may
  may_so own new (faults.BadPlace a) rise may = absurd may
  may_so own new (faults.Missing a) rise may = absurd may
  may_so own new (faults.Blocked a) rise may = absurd may
  may_so own new (faults.TooLarge a) rise may = absurd may
  may_so own new (faults.BadFileName a) rise may = absurd may
  may_so own new (faults.Syntax a b) rise may = absurd may
  may_so own new (faults.TooLong a) rise may = absurd may
  may_so own new (faults.TooDeep a b) rise may = absurd may
  may_so own new (faults.NotUtf8 a) rise may = absurd may
  may_so own new (faults.Circular a) rise may = absurd may
  may_so own new (faults.UnknownTransform a) rise may = absurd may
  may_so own new (faults.BadArguments a) rise may = absurd may
  may_so own new (faults.NoValue a b) rise may = absurd may
  may_so own new (faults.WrongValue a) rise may = absurd may
  may_so own new (faults.Final a) rise may = absurd may
  may_so own new (faults.UnknownAction a) rise may = absurd may
  may_so own new (faults.ActionFailed a) rise may = absurd may
  may_so own new (faults.BadArgument a b) rise may = absurd may
  may_so own new (faults.UnknownProject a) rise may = absurd may
  may_so own new (faults.DuplicateTask a) rise may = absurd may
  may_so own new (faults.TaskNotFound a) rise may = absurd may
  may_so own new (faults.DuplicateProperty a) rise may = absurd may
  may_so own new (faults.UnknownProperty a) rise may = absurd may
  may_so own new (faults.BadShape a) rise may = absurd may
  may_so own new (faults.OutputOutsideBuild a b) rise may = absurd may
  may_so own new (faults.BadProjectPlace a) rise may = absurd may
  may_so own new (faults.TooMany a) rise may = absurd may
  may_so own new (faults.UnknownOutput a b) rise may = absurd may
  may_so own new (faults.Cycle a) rise may = absurd may
  may_so own new (faults.OverlappingOutputs a b c) rise may = absurd may
  may_so own new (faults.UndeclaredDependency a b c) rise may = absurd may
  may_so own new (faults.OwnOutputAsInput a b) rise may = absurd may
  may_so own new faults.NoTasks rise may = absurd may
  may_so own new (faults.BadPattern a) rise may = absurd may
  may_so own new (faults.DuplicateInput a b) rise may = absurd may
  may_so own new (faults.TooManyFiles a) rise may = absurd may
  may_so own new (faults.OwnState a) rise may = absurd may
  may_so own new (faults.BadLine a) rise may = absurd may
  may_so own new faults.Usage rise may = absurd may

  pub turned_before : (report : TaskReport) (old : Contents) (after : ℕ) (new : Contents) → mid ≤ after
      → HasExecuted (setting_with kinds registry_of second) options plan task (record { world = moment.world; outcomes = moment.outcomes; failures = mid }) report old after new
      → HasExecuted (setting_with kinds registry_of first) options plan task moment report old after new
  turned_before report old after new rise turned = record {
    memory = turned.memory;
    execution = record {
      label = label_so turned.execution.label;
      leaves = turned.execution.leaves;
      prints = turned.execution.prints;
      reading = turned.execution.reading;
      begun = turned.execution.begun;
    };
    records = turned.records;
  }
    where
      label_so : IsOutcomeOf kinds options plan task moment report.outcome
          ⊎ IsOfMachine (rules_in (setting_with kinds registry_of second) (own_files old) options plan) (record { world = moment.world; outcomes = moment.outcomes; failures = mid }) task report.outcome
          (record { world = record { folder = outside new; memory = turned.memory }; failures = after })
          → IsOutcomeOf kinds options plan task moment report.outcome
          ⊎ IsOfMachine (rules_in (setting_with kinds registry_of first) (own_files old) options plan) moment task report.outcome
          (record { world = record { folder = outside new; memory = turned.memory }; failures = after })
      label_so (inl label) = inl label
      label_so (inr machine) =
          inr (machine.0, may_so (own_files old) (record { world = record { folder = outside new; memory = turned.memory }; failures = after }) machine.0 rise machine.1, machine.2)

pub copied_some : {X : Type 0} (o : Option (Bor X)) → is_some (option_copied o) ≡ is_some o
copied_some None = refl
copied_some (Some x) = refl
