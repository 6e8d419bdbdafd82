-- An incremental run, from the answers to its calls to the task's execution.
use Rattle.gb_history.specs.Text.{record_text}
use Rattle.std.specs.Prelude.{ℕ, ◌≡◌, ◌≤◌, Bool, false, true, List, [], None, Result, Ok, Err, OnErr, IfErr, map, Some, ◌||◌}
use Rattle.std.specs.FinMap.Entries.{is_sorted}
use Rattle.std.specs.List.{AllByRecursion, list_any}
use Rattle.std.proofs.Common.{refl, sym, subst, ◌∙◌, inl}
use Rattle.gb_action.specs.Changes.{Changes}
use Rattle.gb_action.specs.Files.{Trees}
use Rattle.gb_action.specs.declared.output_files.OutputFiles.{OutputFiles}
use Rattle.gb_core.specs.Lists.{byte_order}
use Rattle.gb_core.specs.Path.{is_task_path}
use Rattle.gb_folder.specs.Files.{Contents, Place, SameTearing, Tearing, is_empty, is_own}
use Rattle.gb_history.specs.Places.{record_place}
use Rattle.gb_history.specs.Record.{Prints}
use Rattle.gb_label.specs.Deciding.{HasNamesInOrder}
use Rattle.gb_semantics.specs.Kinds.{Kinds}
use Rattle.gb_semantics.specs.Label.{Moment}
use Rattle.gb_semantics.specs.Made.{rest_of}
use Rattle.gb_semantics.specs.Memory.{Entry, Memory, World, forget}
use Rattle.gb_semantics.specs.Tree.{trees_of}
use Rattle.gb_semantics.specs.TrueRecord.{outside}
use Rattle.gb_plan.specs.Graph.{Plan, reads_output_of, some_overlap}
use Rattle.gb_plan.specs.Task.{Text, is_output_of, output_places}
use Rattle.gb_plan.specs.declared.task.Output.{Output}
use Rattle.gb_plan.specs.declared.task.TaskDeclaration.{TaskDeclaration as Task}
use Rattle.gb_records.specs.Said.{IsSaidOf}
use Rattle.gb_records.specs.Holding.{HoldsRecords}
use Rattle.gb_report.specs.declared.fault.Fault.{Fault}
use Rattle.gb_report.specs.declared.fault.Fault.TheVariants as faults
use Rattle.gb_report.specs.declared.report.Options.{Options}
use Rattle.gb_run.specs.RunInput.{RunInput, EndsWell, run_input}
use Rattle.gb_run.specs.Laws.{run_input_in}
use Rattle.gb_folder.specs.Changes.{ChangesOnly, is_at}
use Rattle.gb_folder.specs.Faults.{IsOfMachine}
use Rattle.gb_label.specs.Reading.{digests_in, is_input_of}
use Rattle.gb_run.specs.AskingChanges.{GoesOn, IsFitting, observed_of}
use Rattle.gb_run.specs.Failing.{ByChanges, Fails}
use Rattle.gb_task.specs.Keeping.{IsForgotten, IsRemembered, IsUnwritten, run_now}
use Rattle.gb_task.specs.Executing.{BeginsAt, HasExecuted, IsDueByChanges, Registering, is_of_execution, report_of, setting_with}
use Rattle.gb_task.proofs.Cleared.{records_stay}
use Rattle.gb_task.proofs.Outside.{kept, trees_outside}
use Rattle.gb_task.proofs.Since.{goes_on_since}
use Rattle.gb_task.proofs.Steps.{entry_made_then, kept_record, on_input, run_by_changes_failed, run_ended, said_then, unread, unrecorded}
use Rattle.gb_task.proofs.DueExecutions.{IsRun}
use Rattle.gb_task.proofs.Whole.{as_found, fails_before, le_chain, refl_le}

module _ (kinds : Kinds) (registry_of : Registering) (may_leave : Tearing) (options : Options) (plan : Plan) (task : Task) (was_read : Bool)
    (moment : Moment) (old : Contents) (before : ℕ) (reported : List Changes)
    (out : list_any (λ (o : Output). is_own o.place) task.outputs ≡ false) (separate : reads_output_of task task ≡ false)
    (at : BeginsAt task was_read old before moment) (due : IsDueByChanges kinds options task moment.world reported) where
  abbrev memory : Memory
  memory = moment.world.memory

  abbrev pub Executions : Result (Unit {0}) Fault → List Text → ℕ → Contents → Type 0
  Executions result lines after new = HasExecuted (setting_with kinds registry_of may_leave) options plan task moment (report_of task result lines) old after new

  abbrev pub world_then : World
  world_then = record { folder = outside old; memory = moment.world.memory }

  pub since_then : IsDueByChanges kinds options task (record { folder = outside old; memory = moment.world.memory }) reported
  since_then = subst (λ (m : Moment). IsDueByChanges kinds options task m.world reported) (sym (as_found task was_read old before moment at)) due

  due_then : IsRun kinds options task (record { folder = outside old; memory = moment.world.memory }) reported
  due_then = record { case = since_then.case; not_current = since_then.not_current; are_reported = inl (since_then.since, since_then.are_changes) }

  abbrev Then : Result (Unit {0}) Fault → List Text → ℕ → Contents → Type 0
  Then result lines after new =
      HasExecuted (setting_with kinds registry_of may_leave) options plan task
      (record { world = record { folder = outside old; memory = moment.world.memory }; outcomes = moment.outcomes; failures = before }) (report_of task result lines) old after new

  found : (result : Result (Unit {0}) Fault) (lines : List Text) (after : ℕ) (new : Contents) → Then result lines after new → Executions result lines after new
  found result lines after new turned =
      subst (λ (m : Moment). HasExecuted (setting_with kinds registry_of may_leave) options plan task m (report_of task result lines) old after new) (as_found task was_read old before moment at) turned

  silent : (result : Result (Unit {0}) Fault) (lines : List Text) (after : ℕ) (new : Contents) → lines ≡ [] → Then result [] after new → Executions result lines after new
  silent result lines after new none turned = found result lines after new (subst (λ (ls : List Text). Then result ls after new) (sym none) turned)

  pub reading_failed : (fault : Fault) (lines : List Text) (after : ℕ) (new : Contents) → lines ≡ [] → new ≡ old → IsOfMachine before after fault
      → ((place : Place) → fault ≡ faults.Device place → (is_input_of task place || is_output_of task place) ≡ true) → Executions (Err fault) lines after new
  reading_failed fault lines after new none same why blamed =
      silent (Err fault) lines after new none
      (unread kinds registry_of may_leave options plan task was_read memory moment.outcomes before old out separate at.read at.records reported due_then fault after new same why blamed)

  pub forgetting_failed : (fault : Fault) (lines : List Text) (between after : ℕ) (existed new : Contents) → lines ≡ [] → existed ≡ old → before ≤ between → between ≤ after
      → was_read ≡ true → IsUnwritten task.path None existed.files between after fault → ChangesOnly (is_at (record_place task.path)) existed new
      → IsForgotten task.path memory (Err fault) new.files → Executions (Err fault) lines after new
  forgetting_failed fault lines between after existed new none same le more read why changes records =
      silent (Err fault) lines after new none
      (kept_record kinds registry_of may_leave options plan task was_read memory moment.outcomes before old out separate at.read at.records reported due_then fault between after new le more
      (record {
        read = read;
        why = subst (λ (c : Contents). IsUnwritten task.path None c.files between after fault) same why;
        changes = subst (λ (c : Contents). ChangesOnly (is_at (record_place task.path)) c new) same changes;
        records = records;
      }))

  module _ (second : Tearing) (lines : List Text) (between : ℕ) (taken ran : Contents) (trees : Trees) (tearing : SameTearing may_leave second) (le : before ≤ between)
      (gone : ChangesOnly (is_at (record_place task.path)) old taken) (forgotten : HoldsRecords taken.files (forget memory task.path)) (are_trees : trees ≡ trees_of task old.files)
      (ran_at : ChangesOnly (is_output_of task) taken ran) (changed : ChangesOnly (is_of_execution task) old ran) where
    same_input : run_input kinds task trees reported (rest_of task taken.files) ≡ run_input_in kinds task reported taken.files
    same_input =
        on_input kinds registry_of may_leave options plan task was_read memory moment.outcomes before old out separate at.read at.records reported due_then taken gone
        (rest_of task taken.files) trees reported refl are_trees refl

    records_then : HoldsRecords ran.files (forget memory task.path)
    records_then = records_stay task out taken ran (forget memory task.path) ran_at forgotten

    pub running_failed : (fault : Fault) (after : ℕ) → between ≤ after → ((place : Place) → fault ≡ faults.Device place → is_output_of task place ≡ true)
        → AllByRecursion (IsFitting kinds task) task.actions
        → Fails (run_input kinds task trees reported (rest_of task taken.files)) (ByChanges taken.files) second between fault lines after ran.files → Executions (Err fault) lines after ran
    running_failed fault after more blamed fitting fails =
        found (Err fault) lines after ran
        (run_by_changes_failed kinds registry_of may_leave options plan task was_read memory moment.outcomes before old out separate at.read at.records reported due_then taken gone
        fault lines between after after ran ran le more (refl_le after) changed blamed records_then refl since_then.since.one_writer fitting
        (fails_before _ (ByChanges taken.files) may_leave second between after fault lines ran.files tearing more
        (subst (λ (input : RunInput). Fails input (ByChanges taken.files) second between fault lines after ran.files) same_input fails)))

    module _ (sorted : is_sorted byte_order taken.files ≡ true) (well : EndsWell (run_input kinds task trees reported (rest_of task taken.files)) lines ran.files) where
      well_so : EndsWell (run_input_in kinds task reported taken.files) lines ran.files
      well_so = subst (λ (input : RunInput). EndsWell input lines ran.files) same_input well

      abbrev entry : Entry
      entry =
          entry_made_then kinds registry_of may_leave options plan task was_read memory moment.outcomes before old out separate at.read at.records reported due_then taken gone
          lines ran sorted well_so

      module _ (inputs : List Prints) (mid after : ℕ) (new : Contents)
          (are_inputs : inputs ≡ digests_in (trees_of task old.files)) (more : between ≤ mid) (late : mid ≤ after) (changes : ChangesOnly (is_of_execution task) old new) (same : kept new.files ≡ kept ran.files) where
        said : IsSaidOf (run_now task inputs ran.files) entry
        said =
            said_then kinds registry_of may_leave options plan task was_read memory moment.outcomes before old out separate at.read at.records reported due_then taken gone
            lines ran sorted well_so inputs are_inputs

        pub remembering : (result : Result (Unit {0}) Fault)
            → IfErr result (IsUnwritten task.path (Some (record_text task.path (run_now task inputs ran.files))) ran.files mid after) → OnErr result (is_empty task.outputs ≡ false)
            → ((m : Memory) (e : Entry) → HoldsRecords ran.files m → IsSaidOf (run_now task inputs ran.files) e → IsRemembered task e m result new.files)
            → Executions result lines after new
        remembering (Ok done) cannot outputs exists =
            found (Ok done) lines after new
            (run_ended kinds registry_of may_leave options plan task was_read memory moment.outcomes before old out separate at.read at.records reported due_then taken gone
            lines ran sorted well_so after new changes same (exists (forget memory task.path) entry records_then said))
        remembering (Err fault) cannot outputs exists =
            found (Err fault) lines after new
            (unrecorded kinds registry_of may_leave options plan task was_read memory moment.outcomes before old out separate at.read at.records reported due_then taken gone
            lines ran sorted well_so after new changes same inputs are_inputs mid after (le_chain before between mid le more) late (refl_le after) changed outputs fault cannot
            (exists (forget memory task.path) entry records_then said))

  -- what the run is based on
  module _ (names : HasNamesInOrder task) (is_path : is_task_path task.path ≡ true) (distinct : some_overlap (output_places task) ≡ false) (taken : Contents)
      (gone : ChangesOnly (is_at (record_place task.path)) old taken) (trees : Trees) (outputs : List OutputFiles) (are_trees : trees ≡ trees_of task old.files)
      (are_outputs : outputs ≡ map (observed_of old.files) task.outputs) where
    pub goes_on : GoesOn kinds task since_then.since.entry.inputs trees reported outputs taken.files
    goes_on =
        goes_on_since kinds options task memory old taken out distinct names is_path at.records gone since_then.since since_then.is_made trees reported outputs
        (are_trees ∙ sym (trees_outside task old.files)) since_then.are_changes are_outputs
