-- A full run, from the answers to its calls to the task's execution.
use Rattle.gb_history.specs.Text.{record_text}
use Rattle.std.specs.Prelude.{ℕ, ◌≡◌, ◌≤◌, ◌⊎◌, Bool, false, true, List, [], Result, Ok, Err, OnErr, IfErr, Some, ◌||◌}
use Rattle.std.specs.FinMap.Entries.{is_sorted}
use Rattle.std.specs.List.{list_any}
use Rattle.std.proofs.Common.{refl, sym, subst, ◌∙◌, inl, inr, arith}
use Rattle.gb_action.specs.Changes.{Changes}
use Rattle.gb_action.specs.Files.{Trees}
use Rattle.gb_core.specs.Lists.{byte_order}
use Rattle.gb_folder.specs.Files.{Contents, Files, Place, SameTearing, Tearing, is_empty, is_own}
use Rattle.gb_history.specs.Record.{Prints}
use Rattle.gb_semantics.specs.Kinds.{Kinds}
use Rattle.gb_semantics.specs.Label.{Moment, changes_from}
use Rattle.gb_semantics.specs.Memory.{Entry, Memory, forget}
use Rattle.gb_semantics.specs.Tree.{trees_of}
use Rattle.gb_semantics.specs.TrueRecord.{outside}
use Rattle.gb_plan.specs.Graph.{Plan, reads_output_of}
use Rattle.gb_plan.specs.Task.{Text, is_output_of}
use Rattle.gb_plan.specs.declared.task.Output.{Output}
use Rattle.gb_plan.specs.declared.task.TaskDeclaration.{TaskDeclaration as Task}
use Rattle.gb_records.specs.Said.{IsSaidOf}
use Rattle.gb_records.specs.Holding.{HoldsRecords}
use Rattle.gb_report.specs.declared.fault.Fault.{Fault}
use Rattle.gb_report.specs.declared.fault.Fault.TheVariants as faults
use Rattle.gb_report.specs.declared.report.Options.{Options}
use Rattle.gb_run.specs.RunInput.{RunInput, EndsWell, run_input}
use Rattle.gb_run.specs.Failing.{Fails, FailsByItself, InFull, RunMode, files_then}
use Rattle.gb_run.specs.Laws.{run_input_in}
use Rattle.gb_run.specs.Stepping.{FailsByMachine}
use Rattle.gb_run.proofs.RunStates.{machine_before}
use Rattle.gb_folder.specs.Changes.{ChangesOnly}
use Rattle.gb_folder.specs.Faults.{IsOfMachine}
use Rattle.gb_label.specs.Reading.{digests_in, is_input_of}
use Rattle.gb_task.specs.Clearing.{HasCleared, IsCleared}
use Rattle.gb_task.specs.Keeping.{IsRemembered, run_now, IsUnwritten}
use Rattle.gb_task.specs.Executing.{BeginsAt, HasExecuted, IsDue, Registering, is_of_execution, report_of, setting_with}
use Rattle.gb_task.proofs.Cleared.{empty_before, records_stay}
use Rattle.gb_task.proofs.Outside.{changes_outside, kept}
use Rattle.gb_task.proofs.DueExecutions.{IsRun}
use Rattle.gb_task.proofs.Steps.{entry_made_then, half_cleared, kept_record, on_input, run_ended, run_failed, said_then, unread, unrecorded}

pub refl_le : (n : ℕ) → n ≤ n
refl_le n = omega arith

pub le_chain : (a b c : ℕ) → a ≤ b → b ≤ c → a ≤ c
le_chain a b c le more = omega (arith, le, more)

-- the moment as it was found
pub as_found : (task : Task) (was_read : Bool) (old : Contents) (before : ℕ) (moment : Moment) → BeginsAt task was_read old before moment
    → (let m : Moment = record { world = record { folder = outside old; memory = moment.world.memory }; outcomes = moment.outcomes; failures = before } in m) ≡ moment
as_found task was_read old before moment at = λ i.
    record { world = record { folder = sym at.folder i; memory = moment.world.memory }; outcomes = moment.outcomes; failures = sym at.failures i }

-- a run that failed under one relation of torn writes failed so under an equal one
pub fails_before : (input : RunInput) (mode : RunMode) (first second : Tearing) (before after : ℕ) (fault : Fault) (lines : List Text) (new : Files) → SameTearing first second → before ≤ after
    → Fails input mode second before fault lines after new → Fails input mode first before fault lines after new
fails_before input mode first second before after fault lines new same le fails = record { state = fails.state; printed = fails.printed; why = by fails.why }
  where
    by : FailsByItself input mode fails.state fault new ⊎ FailsByMachine second before (files_then input mode fails.state) fails.state.following fault after new
        → FailsByItself input mode fails.state fault new ⊎ FailsByMachine first before (files_then input mode fails.state) fails.state.following fault after new
    by (inl itself) = inl itself
    by (inr machine) = inr (machine_before first second before before after (files_then input mode fails.state) new fails.state.following fault same (refl_le before) le machine)

module _ (kinds : Kinds) (registry_of : Registering) (may_leave : Tearing) (options : Options) (plan : Plan) (task : Task) (was_read : Bool)
    (moment : Moment) (old : Contents) (before : ℕ)
    (out : list_any (λ (o : Output). is_own o.place) task.outputs ≡ false) (separate : reads_output_of task task ≡ false)
    (at : BeginsAt task was_read old before moment) (due : IsDue kinds options task moment.world) where
  abbrev memory : Memory
  memory = moment.world.memory

  abbrev pub Executions : Result (Unit {0}) Fault → List Text → ℕ → Contents → Type 0
  Executions result lines after new = HasExecuted (setting_with kinds registry_of may_leave) options plan task moment (report_of task result lines) old after new

  abbrev reported_then : List Changes
  reported_then = changes_from task [] (kept old.files)

  full_then : IsDue kinds options task (record { folder = outside old; memory = moment.world.memory })
  full_then = subst (λ (m : Moment). IsDue kinds options task m.world) (sym (as_found task was_read old before moment at)) due

  due_then : IsRun kinds options task (record { folder = outside old; memory = moment.world.memory }) (changes_from task [] (kept old.files))
  due_then = record { case = full_then.case; not_current = full_then.not_current; are_reported = inr (full_then.not_incremental, refl) }

  abbrev Then : Result (Unit {0}) Fault → List Text → ℕ → Contents → Type 0
  Then result lines after new =
      HasExecuted (setting_with kinds registry_of may_leave) options plan task
      (record { world = record { folder = outside old; memory = moment.world.memory }; outcomes = moment.outcomes; failures = before }) (report_of task result lines) old after new

  found : (result : Result (Unit {0}) Fault) (lines : List Text) (after : ℕ) (new : Contents) → Then result lines after new → Executions result lines after new
  found result lines after new turned =
      subst (λ (m : Moment). HasExecuted (setting_with kinds registry_of may_leave) options plan task m (report_of task result lines) old after new) (as_found task was_read old before moment at) turned

  silent : (result : Result (Unit {0}) Fault) (lines : List Text) (after : ℕ) (new : Contents) → lines ≡ [] → Then result [] after new → Executions result lines after new
  silent result lines after new none turned = found result lines after new (subst (λ (ls : List Text). Then result ls after new) (sym none) turned)

  pub reading_failed : (fault : Fault) (lines : List Text) (after : ℕ) (new : Contents) → lines ≡ [] → new ≡ old → IsOfMachine before after fault
      → ((place : Place) → fault ≡ faults.Device place → (is_input_of task place || is_output_of task place) ≡ true) → Executions (Err fault) lines after new
  reading_failed fault lines after new none same why blamed =
      silent (Err fault) lines after new none
      (unread kinds registry_of may_leave options plan task was_read memory moment.outcomes before old out separate at.read at.records reported_then due_then fault after new same why blamed)

  pub clearing_failed : (second : Tearing) (fault : Fault) (lines : List Text) (between after : ℕ) (existed new : Contents) → lines ≡ [] → existed ≡ old → SameTearing may_leave second
      → before ≤ between → between ≤ after → HasCleared task was_read memory second between existed (Err fault) after new → ChangesOnly (is_of_execution task) old new
      → ((place : Place) → fault ≡ faults.Device place → is_output_of task place ≡ true) → Executions (Err fault) lines after new
  clearing_failed second fault lines between after existed new none same tearing le more cleared changes blamed =
      silent (Err fault) lines after new none (by (subst (λ (c : Contents). HasCleared task was_read memory second between c (Err fault) after new) same cleared))
    where
      by : HasCleared task was_read memory second between old (Err fault) after new → Then (Err fault) [] after new
      by (inl held) =
          kept_record kinds registry_of may_leave options plan task was_read memory moment.outcomes before old out separate at.read at.records reported_then due_then fault between after new le more held
      by (inr half) =
          half_cleared kinds registry_of may_leave options plan task was_read memory moment.outcomes before old out separate at.read at.records reported_then due_then half.taken half.out
          fault between after after new le more (refl_le after) changes blamed half.records
          (λ since. absurd (full_then.not_incremental since))
          (empty_before task may_leave second between between after half.taken new fault tearing (refl_le between) more half.why)

  module _ (second : Tearing) (lines : List Text) (between : ℕ) (cleared ran : Contents) (trees : Trees) (reported : List Changes) (tearing : SameTearing may_leave second) (le : before ≤ between)
      (is_cleared : IsCleared task memory old cleared) (are_trees : trees ≡ trees_of task old.files) (are_reported : reported ≡ changes_from task [] old.files)
      (ran_at : ChangesOnly (is_output_of task) cleared ran) (changed : ChangesOnly (is_of_execution task) old ran) where
    same_input : run_input kinds task trees reported cleared.files ≡ run_input_in kinds task (changes_from task [] (kept old.files)) is_cleared.taken.files
    same_input =
        on_input kinds registry_of may_leave options plan task was_read memory moment.outcomes before old out separate at.read at.records reported_then due_then is_cleared.taken is_cleared.out
        cleared.files trees reported is_cleared.emptied are_trees (are_reported ∙ sym (changes_outside task old.files))

    records_then : HoldsRecords ran.files (forget memory task.path)
    records_then = records_stay task out cleared ran (forget memory task.path) ran_at is_cleared.records

    pub running_failed : (fault : Fault) (after : ℕ) → between ≤ after → ((place : Place) → fault ≡ faults.Device place → is_output_of task place ≡ true)
        → Fails (run_input kinds task trees reported cleared.files) InFull second between fault lines after ran.files → Executions (Err fault) lines after ran
    running_failed fault after more blamed fails =
        found (Err fault) lines after ran
        (run_failed kinds registry_of may_leave options plan task was_read memory moment.outcomes before old out separate at.read at.records reported_then due_then is_cleared.taken is_cleared.out
        fault lines between after after ran ran le more (refl_le after) changed blamed records_then refl
        (fails_before _ InFull may_leave second between after fault lines ran.files tearing more
        (subst (λ (input : RunInput). Fails input InFull second between fault lines after ran.files) same_input fails))
        (λ since. absurd (full_then.not_incremental since)))

    module _ (well : EndsWell (run_input kinds task trees reported cleared.files) lines ran.files) where
      sorted : is_sorted byte_order is_cleared.taken.files ≡ true
      sorted = is_cleared.is_folder.in_order

      well_so : EndsWell (run_input_in kinds task (changes_from task [] (kept old.files)) is_cleared.taken.files) lines ran.files
      well_so = subst (λ (input : RunInput). EndsWell input lines ran.files) same_input well

      abbrev entry : Entry
      entry =
          entry_made_then kinds registry_of may_leave options plan task was_read memory moment.outcomes before old out separate at.read at.records reported_then due_then is_cleared.taken is_cleared.out
          lines ran sorted well_so

      module _ (inputs : List Prints) (mid after : ℕ) (new : Contents)
          (are_inputs : inputs ≡ digests_in (trees_of task old.files)) (more : between ≤ mid) (late : mid ≤ after) (changes : ChangesOnly (is_of_execution task) old new) (same : kept new.files ≡ kept ran.files) where
        said : IsSaidOf (run_now task inputs ran.files) entry
        said =
            said_then kinds registry_of may_leave options plan task was_read memory moment.outcomes before old out separate at.read at.records reported_then due_then is_cleared.taken is_cleared.out
            lines ran sorted well_so inputs are_inputs

        pub remembering : (result : Result (Unit {0}) Fault)
            → IfErr result (IsUnwritten task.path (Some (record_text task.path (run_now task inputs ran.files))) ran.files mid after) → OnErr result (is_empty task.outputs ≡ false)
            → ((m : Memory) (e : Entry) → HoldsRecords ran.files m → IsSaidOf (run_now task inputs ran.files) e → IsRemembered task e m result new.files)
            → Executions result lines after new
        remembering (Ok done) cannot outputs exists =
            found (Ok done) lines after new
            (run_ended kinds registry_of may_leave options plan task was_read memory moment.outcomes before old out separate at.read at.records reported_then due_then is_cleared.taken is_cleared.out
            lines ran sorted well_so after new changes same (exists (forget memory task.path) entry records_then said))
        remembering (Err fault) cannot outputs exists =
            found (Err fault) lines after new
            (unrecorded kinds registry_of may_leave options plan task was_read memory moment.outcomes before old out separate at.read at.records reported_then due_then is_cleared.taken is_cleared.out
            lines ran sorted well_so after new changes same inputs are_inputs mid after (le_chain before between mid le more) late (refl_le after) changed outputs fault cannot
            (exists (forget memory task.path) entry records_then said))
