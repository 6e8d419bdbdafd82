-- A run step by step: its result is the task's execution, wherever it ended.
use Rattle.std.specs.Prelude.{ℕ, ◌≡◌, ◌≢◌, ◌≤◌, ◌⊎◌, ◌||◌, ◌&&◌, Bool, true, false, not, cond, List, [], ◌∷◌, length, take, map, if◌then◌else◌, is_some, nat_lt, Option, None, Some, Result, Ok, Err, IsTrue}
use Rattle.std.specs.FinMap.Entries.{is_sorted}
use Rattle.std.specs.List.{AllByRecursion, list_any}
use Rattle.std.proofs.Common.{refl, sym, ap, ap₂, subst, ◌∙◌, inl, inr}
use Rattle.sha2.specs.Sha256.{sha256}
use Rattle.gb_action.specs.Changes.{Changes}
use Rattle.gb_action.specs.Files.{Trees}
use Rattle.gb_core.specs.Lists.{byte_order, first_of}
use Rattle.gb_core.specs.Place.{is_place, is_under}
use Rattle.gb_folder.specs.Files.{Place, Bytes, Contents, Files, HasRisen, Tearing, file_at, files_where, is_blocked, is_empty, is_own}
use Rattle.gb_folder.proofs.Changes.{HasRisen-after, HasRisen-before, file_at-files_where}
use Rattle.gb_history.specs.Places.{record_place}
use Rattle.gb_history.specs.Record.{Prints, Record}
use Rattle.gb_history.specs.Text.{record_text}
use Rattle.gb_semantics.specs.Events.{IsTornInRun, Setting, ExistsInRun, is_record_shut_out, is_record_too_long, is_touched_by, max_record, may_occur, own_files}
use Rattle.gb_semantics.specs.Kinds.{Kinds}
use Rattle.gb_semantics.specs.Label.{Early, Moment, early_case, has_one_writer, run_of}
use Rattle.gb_semantics.specs.Made.{made, made_of, rest_of, with_outputs}
use Rattle.gb_semantics.specs.Memory.{Entry, Memory, World, entry_of, forget, recalled, remember}
use Rattle.gb_semantics.specs.Run.{Ended}
use Rattle.gb_semantics.specs.Tree.{has_no_source, listing_faults, reported_of_tree, trees_of}
use Rattle.gb_semantics.specs.TrueRecord.{outside, record_of}
use Rattle.gb_semantics.specs.Execution.{ByMachine, HasEnded, InventsNothing, IsWritten, KeepsRightFiles, WorldState as Exists, TouchesRecordIn, cause_of, lines_of, memory_after}
use Rattle.gb_semantics.proofs.Common.{none_some}
use Rattle.gb_semantics.proofs.Lemmas.Files.{at-put_over, or_else}
use Rattle.gb_semantics.proofs.Lemmas.Making.{made_of_is_right}
use Rattle.gb_plan.specs.Graph.{Plan, reads_output_of}
use Rattle.gb_plan.specs.Task.{Path, Text, is_output_of, output_places, roots_of}
use Rattle.gb_plan.specs.declared.task.Action.{Action}
use Rattle.gb_plan.specs.declared.task.Output.{Output}
use Rattle.gb_plan.specs.declared.task.TaskDeclaration.{TaskDeclaration as Task}
use Rattle.gb_plan.proofs.Tests.{not_false, or_right}
use Rattle.gb_records.specs.Said.{IsSaidOf}
use Rattle.gb_records.specs.Holding.{CannotBeStored, HoldsRecords}
use Rattle.gb_report.specs.declared.fault.Fault.{Fault}
use Rattle.gb_report.specs.declared.fault.Fault.TheVariants as faults
use Rattle.gb_report.specs.declared.report.Options.{Options}
use Rattle.gb_report.specs.declared.report.Outcome.{Outcome}
use Rattle.gb_run.specs.RunInput.{RunInput, EndsWell, run_input, lines_by}
use Rattle.gb_run.specs.Emptying.{CannotEmpty}
use Rattle.gb_run.specs.Failing.{ByChanges, Fails, FailsByItself, InFull, RunMode, files_then}
use Rattle.gb_run.specs.Laws.{Failure, IsWayOf, run_input_in}
use Rattle.gb_run.specs.Stepping.{FailsByMachine}
use Rattle.gb_run.proofs.CutEmptying.{cut_emptyings_invent_nothing, torn_places_are_of_the_emptying}
use Rattle.gb_run.proofs.Endings.{all_done}
use Rattle.gb_run.proofs.FailedRuns.{ended_runs_are_made, failed_runs_invent_nothing_in_full, failed_runs_print_prefixes}
use Rattle.gb_folder.specs.Changes.{ChangesOnly, is_at}
use Rattle.gb_folder.specs.Faults.{IsOfMachine}
use Rattle.gb_tree.specs.Tree.{special_roots}
use Rattle.gb_label.specs.Reading.{digests_in, is_input_of}
use Rattle.gb_run.specs.AskingChanges.{IsFitting}
use Rattle.gb_run.proofs.Failing.{failed_runs_invent_nothing_by_changes, failed_runs_keep_right_files, torn_places_are_of_the_run}
use Rattle.gb_task.specs.Clearing.{IsKept}
use Rattle.gb_task.specs.Keeping.{IsForgotten, IsRemembered, IsUnwritten, run_now}
use Rattle.gb_task.specs.Executing.{HasExecuted, Registering, is_of_execution, report_of, setting_with}
use Rattle.gb_task.proofs.Beside.{run_outside, torn_outside}
use Rattle.gb_task.proofs.Ended.{leaves_outside, makes_outside, said_entry}
use Rattle.gb_task.proofs.Memories.{forget-forget, remember-forget}
use Rattle.gb_task.proofs.Cut.{cut_at_end}
use Rattle.gb_task.proofs.Outside.{kept, source_outside, trees_outside}
use Rattle.gb_task.proofs.Own.{is_kept}
use Rattle.gb_task.proofs.Parts.{blocked_by_own, differs_outside, in_way_before, outside_same}
use Rattle.gb_task.proofs.Taken.{found_at, taken_kept, taken_left, taken_existed, taken_written}
use Rattle.gb_task.proofs.DueExecutions.{EndsFor, Goes, IsRun, by_itself, by_machine, ended, given_up, goes, lines_in, take_whole, torn, unbegun}

same_ok : (one other : Files) → (let made_so : Result Files (List Fault) = Ok one in made_so) ≡ Ok other → one ≡ other
same_ok one other e = cc

take_none : {X : Type 0} (xs : List X) → take 0 xs ≡ []
take_none [] = refl
take_none (x ∷ xs) = refl

module _ (kinds : Kinds) (registry_of : Registering) (may_leave : Tearing) (options : Options) (plan : Plan) (task : Task) (was_read : Bool) (memory : Memory)
    (outcomes : List (Path × Outcome)) (before : ℕ) (old : Contents)
    (out : list_any (λ (o : Output). is_own o.place) task.outputs ≡ false) (separate : reads_output_of task task ≡ false)
    (read : is_some (recalled memory task.path) ≡ was_read) (existed : HoldsRecords old.files memory) where
  abbrev setting : Setting
  setting = setting_with kinds registry_of may_leave

  abbrev world : World
  world = record { folder = outside old; memory = memory }

  abbrev pub moment_then : Moment
  moment_then = record { world = world; outcomes = outcomes; failures = before }

  abbrev existing : ℕ → Contents → Memory → Exists
  existing after new now = record { world = record { folder = outside new; memory = now }; failures = after }

  abbrev pub Executing : Result (Unit {0}) Fault → List Text → ℕ → Contents → Type 0
  Executing result lines after new = HasExecuted setting options plan task moment_then (report_of task result lines) old after new

  module _ (reported : List Changes) (due : IsRun kinds options task world reported) where
    abbrev goes_on : Goes task (outside old)
    goes_on = goes task (outside old) due.case

    touched : (place : Place) → (list_any (is_under place) (roots_of task) || is_output_of task place) ≡ true → is_touched_by task place ≡ true
    touched place e = λ i. (goes_on.runs i && not (goes_on.acts i)) && e i

    touched_out : (place : Place) → is_output_of task place ≡ true → is_touched_by task place ≡ true
    touched_out place e = touched place (or_right (list_any (is_under place) (roots_of task)) (is_output_of task place) e)

    exists_still : (files : Files) (place : Place) (left : Option Bytes) → left ≡ file_at files place → ExistsInRun kinds task files place left
    exists_still files place None is = tt
    exists_still files place (Some bytes) is = inl (sym is)

    -- nothing has begun
    still : (fault : Fault) (after : ℕ) (new : Contents) → cause_of fault ≡ ByMachine → may_occur setting (own_files old) options task moment_then (existing after new memory) fault
        → outside new ≡ outside old → HoldsRecords new.files memory → Executing (Err fault) [] after new
    still fault after new machine may same records = record {
      memory = memory;
      execution = unbegun setting (own_files old) options plan task reported moment_then due fault (existing after new memory) machine may
          (ap (λ (folder : Contents). let w : World = record { folder = folder; memory = memory } in w) same);
      records = records;
    }

    -- ---- reading

    pub unread : (fault : Fault) (after : ℕ) (new : Contents) → new ≡ old → IsOfMachine before after fault
        → ((place : Place) → fault ≡ faults.Device place → (is_input_of task place || is_output_of task place) ≡ true) → Executing (Err fault) [] after new
    unread fault after new same (inl memory_out) blamed =
        subst (λ (f : Fault). Executing (Err f) [] after new) (sym memory_out)
        (still faults.OutOfMemory after new refl tt (ap outside same) (subst (λ (c : Contents). HoldsRecords c.files memory) (sym same) existed))
    unread fault after new same (inr device) blamed =
        subst (λ (f : Fault). Executing (Err f) [] after new) (sym device.1)
        (still (faults.Device device.0) after new refl
        (device.2, touched device.0 (blamed device.0 device.1), inl (exists_still (kept old.files) device.0 (file_at (kept new.files) device.0) (ap (λ (c : Contents). file_at (kept c.files) device.0) same)))
        (ap outside same) (subst (λ (c : Contents). HoldsRecords c.files memory) (sym same) existed))

    -- ---- giving up

    -- what was right stays
    abbrev pub Keeps : Contents → Type 0
    Keeps new = KeepsRightFiles kinds options task world (record { folder = outside new; memory = forget memory task.path })

    -- the run had begun, and nothing is remembered
    gives_up : (fault : Fault) (lines : List Text) (after : ℕ) (new : Contents) → ChangesOnly (is_of_execution task) old new
        → InventsNothing kinds task fault world (record { folder = outside new; memory = forget memory task.path }) → Keeps new
        → EndsFor setting (own_files old) options task reported moment_then fault lines (existing after new (forget memory task.path))
        → ((place : Place) → fault ≡ faults.Device place → is_output_of task place ≡ true)
        → HoldsRecords new.files (forget memory task.path) → Executing (Err fault) lines after new
    gives_up fault lines after new changes invents keeps ends at records = record {
      memory = forget memory task.path;
      execution = given_up setting (own_files old) options plan task reported moment_then due fault lines (existing after new (forget memory task.path))
          (record {
            files = differs_outside task old.files new.files changes.elsewhere;
            invents_nothing = invents;
            special = changes.special;
            memory = refl;
          }) keeps ends at;
      records = records;
    }

    no_lines : [] ≡ lines_in kinds task reported (kept old.files) (take 0 (run_of kinds task (kept old.files)).done)
    no_lines = sym (ap (lines_in kinds task reported (kept old.files)) (take_none (run_of kinds task (kept old.files)).done))

    -- ---- the record

    is_read : was_read ≡ true → recalled memory task.path ≢ None
    is_read was none = not_false (sym (read ∙ was) ∙ ap is_some none)

    touches : (is_empty task.outputs ≡ false) ⊎ (recalled memory task.path ≢ None) → TouchesRecordIn options task world (early_case task (outside old))
    touches why = subst (λ (early : Option Early). TouchesRecordIn options task world early) (sym due.case) (due.not_current, why)

    shut_out : (files : Files) → is_blocked files (record_place task.path) ≡ is_blocked (own_files old) (record_place task.path)
        → IsTrue (not (is_place (record_place task.path)) || is_blocked files (record_place task.path)) → IsTrue (is_record_shut_out setting (own_files old) task.path)
    shut_out files same e = ap (λ b. not (is_place (record_place task.path)) || b) (sym same) ∙ e

    blocked_own : is_blocked old.files (record_place task.path) ≡ is_blocked (own_files old) (record_place task.path)
    blocked_own = blocked_by_own task.path old.files

    -- the record existed, and was not deleted
    pub kept_record : (fault : Fault) (early after : ℕ) (new : Contents) → before ≤ early → early ≤ after → IsKept task was_read memory early old fault after new → Executing (Err fault) [] after new
    kept_record fault early after new le more held = by held.why
      where
        same : outside new ≡ outside old
        same = outside_same task.path old new held.changes

        may_fail : (CannotBeStored old.files task.path None ⊎ HasRisen early after) → (now : Memory)
            → may_occur setting (own_files old) options task moment_then (existing after new now) faults.HistoryNotWritten
        may_fail (inl (inl exist)) now = (touches (inr (is_read held.read)), inr (inl (shut_out old.files blocked_own exist)))
        may_fail (inl (inr long)) now = not_false (sym long)
        may_fail (inr risen) now = (touches (inr (is_read held.read)), inl (HasRisen-before before early after le more risen))

        unwritten : (CannotBeStored old.files task.path None ⊎ HasRisen early after) → IsForgotten task.path memory (Err faults.HistoryNotWritten) new.files
            → Executing (Err faults.HistoryNotWritten) [] after new
        unwritten why (inl exists) = still faults.HistoryNotWritten after new refl (may_fail why memory) same exists
        unwritten why (inr gone) = record {
          memory = forget memory task.path;
          execution = given_up setting (own_files old) options plan task reported moment_then due faults.HistoryNotWritten [] (existing after new (forget memory task.path))
              (record {
                files = ap (λ (c : Contents). files_where (λ q. not (is_output_of task q)) c.files) same;
                invents_nothing = λ place bytes at e. inl (ap (λ (c : Contents). file_at c.files place) (sym same) ∙ e);
                special = ap (λ (c : Contents). c.special) same;
                memory = refl;
              }) (λ since files makes place bytes right there. ap (λ (c : Contents). file_at c.files place) same ∙ there)
              (by_machine refl (may_fail why (forget memory task.path)) 0 no_lines) (λ place e. absurd (let d = e in (cc)));
          records = gone;
        }

        by : IsUnwritten task.path None old.files early after fault → Executing (Err fault) [] after new
        by (inl memory_out) =
            subst (λ (f : Fault). Executing (Err f) [] after new) (sym memory_out)
            (still faults.OutOfMemory after new refl tt same (subst (λ (f : Fault). IsForgotten task.path memory (Err f) new.files) memory_out held.records))
        by (inr unwritten_so) =
            subst (λ (f : Fault). Executing (Err f) [] after new) (sym unwritten_so.0)
            (unwritten unwritten_so.1 (subst (λ (f : Fault). IsForgotten task.path memory (Err f) new.files) unwritten_so.0 held.records))

    -- ---- emptied outputs

    pub none_special : (folder : Contents) → folder.special ≡ old.special → listing_faults task folder ≡ []
    none_special folder same =
        ap (λ (special : List (List ℕ)). map reported_of_tree (special_roots (record { files = folder.files; special = special }) (output_places task))) same ∙ goes_on.listed

    module _ (taken : Contents) (changed : ChangesOnly (is_at (record_place task.path)) old taken) where
      files_kept : kept taken.files ≡ kept old.files
      files_kept = taken_kept task old taken changed

      existed_before : (place : Place) (bytes : Bytes) → is_output_of task place ≡ true → file_at taken.files place ≡ Some bytes → file_at (kept old.files) place ≡ Some bytes
      existed_before = taken_existed setting task out old taken changed

      written_before : (place : Place) (bytes : Bytes) → IsWritten kinds task taken.files place bytes → IsWritten kinds task (kept old.files) place bytes
      written_before = taken_written setting task out old taken changed

      left_before : (new : Files) (place : Place) → is_output_of task place ≡ true
          → ExistsInRun kinds task taken.files place (file_at new place) ⊎ IsTornInRun setting task taken.files place (file_at new place)
          → ExistsInRun kinds task (kept old.files) place (file_at (kept new) place) ⊎ IsTornInRun setting task (kept old.files) place (file_at (kept new) place)
      left_before = taken_left setting task out old taken changed

      module _ (fault : Fault) (between mid after : ℕ) (new : Contents) (early : before ≤ between) (rises : between ≤ mid) (late : mid ≤ after)
          (changes : ChangesOnly (is_of_execution task) old new) (blamed : (place : Place) → fault ≡ faults.Device place → is_output_of task place ≡ true)
          (records : HoldsRecords new.files (forget memory task.path)) where
        risen_in_execution : HasRisen between mid → HasRisen before after
        risen_in_execution risen = HasRisen-after before mid after (HasRisen-before before between mid early rises risen) late

        pub half_cleared : Keeps new → CannotEmpty task may_leave between taken fault mid new → Executing (Err fault) [] after new
        half_cleared keeps why = by why
          where
            invents : InventsNothing kinds task fault world (record { folder = outside new; memory = forget memory task.path })
            invents place bytes at e =
                by_law (cut_emptyings_invent_nothing setting task between taken fault mid new why place bytes (sym (found_at task out new.files place at) ∙ e))
              where
                by_law : (file_at taken.files place ≡ Some bytes) ⊎ (fault ≡ faults.Device place)
                    → (file_at (kept old.files) place ≡ Some bytes) ⊎ IsWritten kinds task (kept old.files) place bytes ⊎ (fault ≡ faults.Device place)
                by_law (inl there) = inl (existed_before place bytes at there)
                by_law (inr device) = inr (inr device)

            gives : cause_of fault ≡ ByMachine → may_occur setting (own_files old) options task moment_then (existing after new (forget memory task.path)) fault
                → Executing (Err fault) [] after new
            gives machine may = gives_up fault [] after new changes invents keeps (by_machine machine may 0 no_lines) blamed records

            by_machine_fault : IsOfMachine between mid fault → Executing (Err fault) [] after new
            by_machine_fault (inl memory_out) = gives (ap cause_of memory_out)
                (subst (λ (f : Fault). may_occur setting (own_files old) options task moment_then (existing after new (forget memory task.path)) f) (sym memory_out) tt)
            by_machine_fault (inr device) = gives (ap cause_of device.1)
                (subst (λ (f : Fault). may_occur setting (own_files old) options task moment_then (existing after new (forget memory task.path)) f) (sym device.1) (
                  risen_in_execution device.2,
                  touched_out device.0 (blamed device.0 device.1),
                  left_before new.files device.0 (blamed device.0 device.1)
                      (torn_places_are_of_the_emptying setting task between taken device.0 mid new
                      (subst (λ (f : Fault). CannotEmpty task may_leave between taken f mid new) device.1 why)),
                ))

            by : CannotEmpty task may_leave between taken fault mid new → Executing (Err fault) [] after new
            by (inl special) = none_some (ap first_of (sym (none_special taken changed.special)) ∙ special.0)
            by (inr machine) = by_machine_fault machine.0

      -- ---- the run

      abbrev pub input_then : RunInput
      input_then = run_input_in kinds task reported taken.files

      trees_read : trees_of task taken.files ≡ trees_of task (kept old.files)
      trees_read = sym (trees_outside task taken.files) ∙ ap (trees_of task) files_kept

      run_read : run_of kinds task taken.files ≡ run_of kinds task (kept old.files)
      run_read = sym (run_outside kinds task out taken.files) ∙ ap (run_of kinds task) files_kept

      source_there : has_no_source task taken.files ≡ false
      source_there = sym (source_outside task taken.files) ∙ ap (has_no_source task) files_kept ∙ goes_on.source

      lines_read : (actions : List Action) → lines_of kinds task (trees_of task taken.files) reported actions ≡ lines_in kinds task reported (kept old.files) actions
      lines_read actions = ap (λ (trees : Trees). lines_of kinds task trees reported actions) trees_read

      -- the input of the run that was begun
      pub on_input : (cleared : Files) (trees : Trees) (changes : List Changes) → cleared ≡ rest_of task taken.files → trees ≡ trees_of task old.files
          → changes ≡ reported → run_input kinds task trees changes cleared ≡ run_input_in kinds task reported taken.files
      on_input cleared trees changes is_rest are_trees are_changes = λ i.
          run_input kinds task
          ((are_trees ∙ sym (trees_outside task old.files) ∙ sym trees_read) i)
          (are_changes i)
          (is_rest i)

      module _ (mode : RunMode) (fault : Fault) (lines : List Text) (between mid after : ℕ) (ran new : Contents) (early : before ≤ between) (rises : between ≤ mid) (late : mid ≤ after)
          (changes : ChangesOnly (is_of_execution task) old new) (blamed : (place : Place) → fault ≡ faults.Device place → is_output_of task place ≡ true)
          (records : HoldsRecords new.files (forget memory task.path)) (same : kept new.files ≡ kept ran.files)
          (is_way : IsWayOf kinds task taken.files mode) (fails : Fails (run_input_in kinds task reported taken.files) mode may_leave between fault lines mid ran.files) where
        failure : Failure setting mode task reported taken.files fault lines ran.files
        failure = record { is_way = is_way; before = between; after = mid; fails = fails }

        found_then : (place : Place) → is_output_of task place ≡ true → file_at (kept new.files) place ≡ file_at ran.files place
        found_then place at = ap (λ (fs : Files). file_at fs place) same ∙ found_at task out ran.files place at

        prefix : (count : ℕ) × (lines ≡ lines_in kinds task reported (kept old.files) (take count (run_of kinds task (kept old.files)).done))
        prefix =
            let printed = failed_runs_print_prefixes setting mode task reported taken.files fault lines ran.files failure in (
              printed.0,
              printed.1 ∙ lines_read (take printed.0 (run_of kinds task taken.files).done) ∙ ap (λ (e : Ended). lines_in kinds task reported (kept old.files) (take printed.0 e.done)) run_read,
            )

        ends_then : FailsByItself (run_input_in kinds task reported taken.files) mode fails.state fault ran.files
            ⊎ FailsByMachine may_leave between (files_then (run_input_in kinds task reported taken.files) mode fails.state) fails.state.following fault mid ran.files
            → EndsFor setting (own_files old) options task reported moment_then fault lines (existing after new (forget memory task.path))
        ends_then (inl itself) =
            by_itself (ap (λ (e : Ended). e.fault) (sym run_read) ∙ itself.faulty)
            (fails.printed ∙ ap (lines_by input_then) (sym itself.done) ∙ lines_read (run_of kinds task taken.files).done
            ∙ ap (λ (e : Ended). lines_in kinds task reported (kept old.files) e.done) run_read)
        ends_then (inr (inl memory_out)) =
            by_machine (ap cause_of memory_out.0)
            (subst (λ (f : Fault). may_occur setting (own_files old) options task moment_then (existing after new (forget memory task.path)) f) (sym memory_out.0) tt) prefix.0 prefix.1
        ends_then (inr (inr stopped)) =
            by_machine (ap cause_of stopped.device)
            (subst (λ (f : Fault). may_occur setting (own_files old) options task moment_then (existing after new (forget memory task.path)) f) (sym stopped.device) (
              HasRisen-after before mid after (HasRisen-before before between mid early rises stopped.risen) late,
              touched_out stopped.step.0 (blamed stopped.step.0 stopped.device),
              inr (torn_then stopped.step.0 stopped.device),
            )) prefix.0 prefix.1
          where
            torn_then : (place : Place) → fault ≡ faults.Device place → IsTornInRun setting task (kept old.files) place (file_at (kept new.files) place)
            torn_then place device =
                subst (λ (o : Option Bytes). IsTornInRun setting task (kept old.files) place o) (sym (found_then place (blamed place device)))
                (subst (λ (fs : Files). IsTornInRun setting task fs place (file_at ran.files place)) files_kept
                (torn_outside setting task out taken.files place (blamed place device) (file_at ran.files place)
                (torn_places_are_of_the_run setting mode task reported taken.files place lines ran.files source_there (blamed place device)
                (subst (λ (f : Fault). Failure setting mode task reported taken.files f lines ran.files) device failure))))

        gives_run_up : InventsNothing kinds task fault world (record { folder = outside new; memory = forget memory task.path }) → Keeps new → Executing (Err fault) lines after new
        gives_run_up invents keeps = gives_up fault lines after new changes invents keeps (ends_then fails.why) blamed records

      -- ---- the full run

      module _ (fault : Fault) (lines : List Text) (between mid after : ℕ) (ran new : Contents) (early : before ≤ between) (rises : between ≤ mid) (late : mid ≤ after)
          (changes : ChangesOnly (is_of_execution task) old new) (blamed : (place : Place) → fault ≡ faults.Device place → is_output_of task place ≡ true)
          (records : HoldsRecords new.files (forget memory task.path)) (same : kept new.files ≡ kept ran.files)
          (fails : Fails (run_input_in kinds task reported taken.files) InFull may_leave between fault lines mid ran.files) where
        invents_then : InventsNothing kinds task fault world (record { folder = outside new; memory = forget memory task.path })
        invents_then place bytes at e =
            by_law (failed_runs_invent_nothing_in_full setting task reported taken.files fault lines ran.files source_there
            (record { is_way = tt; before = between; after = mid; fails = fails }) place bytes at
            (sym (ap (λ (fs : Files). file_at fs place) same ∙ found_at task out ran.files place at) ∙ e))
          where
            by_law : IsWritten kinds task taken.files place bytes ⊎ (fault ≡ faults.Device place)
                → (file_at (kept old.files) place ≡ Some bytes) ⊎ IsWritten kinds task (kept old.files) place bytes ⊎ (fault ≡ faults.Device place)
            by_law (inl written) = inr (inl (written_before place bytes written))
            by_law (inr device) = inr (inr device)

        pub run_failed : Keeps new → Executing (Err fault) lines after new
        run_failed keeps = gives_run_up InFull fault lines between mid after ran new early rises late changes blamed records same tt fails invents_then keeps

      -- ---- the incremental run

      module _ (fault : Fault) (lines : List Text) (between mid after : ℕ) (ran new : Contents) (early : before ≤ between) (rises : between ≤ mid) (late : mid ≤ after)
          (changes : ChangesOnly (is_of_execution task) old new) (blamed : (place : Place) → fault ≡ faults.Device place → is_output_of task place ≡ true)
          (records : HoldsRecords new.files (forget memory task.path)) (same : kept new.files ≡ kept ran.files)
          (one : IsTrue (has_one_writer kinds task.actions)) (fitting : AllByRecursion (IsFitting kinds task) task.actions)
          (fails : Fails (run_input_in kinds task reported taken.files) (ByChanges taken.files) may_leave between fault lines mid ran.files) where
        failure_so : Failure setting (ByChanges taken.files) task reported taken.files fault lines ran.files
        failure_so = record { is_way = (refl, one, fitting); before = between; after = mid; fails = fails }

        invents_so : InventsNothing kinds task fault world (record { folder = outside new; memory = forget memory task.path })
        invents_so place bytes at e =
            by_law (failed_runs_invent_nothing_by_changes setting task reported taken.files fault lines ran.files source_there failure_so place bytes at
            (sym (ap (λ (fs : Files). file_at fs place) same ∙ found_at task out ran.files place at) ∙ e))
          where
            by_law : (file_at taken.files place ≡ Some bytes) ⊎ IsWritten kinds task taken.files place bytes ⊎ (fault ≡ faults.Device place)
                → (file_at (kept old.files) place ≡ Some bytes) ⊎ IsWritten kinds task (kept old.files) place bytes ⊎ (fault ≡ faults.Device place)
            by_law (inl there) = inl (existed_before place bytes at there)
            by_law (inr (inl written)) = inr (inl (written_before place bytes written))
            by_law (inr (inr device)) = inr (inr device)

        -- a file that was right is so
        keeps_so : Keeps new
        keeps_so since files files_are place bytes right there =
            let existed_there = kept_there (kept old.files) refl place bytes there in
            ap (λ (fs : Files). file_at fs place) same
            ∙ file_at-files_where ran.files is_kept place
            ∙ ap (λ b. cond b (file_at ran.files place) None) existed_there.0
            ∙ failed_runs_keep_right_files setting task reported taken.files fault lines ran.files failure_so files made_there place bytes right existed_there.1
          where
            made_there : made_of kinds task.actions task.values (trees_of task taken.files) task.outputs ≡ Ok files
            made_there =
                ap (λ (trees : Trees). made_of kinds task.actions task.values trees task.outputs) trees_read
                ∙ sym (ap (λ b. if b then Ok [] else made_of kinds task.actions task.values (trees_of task (kept old.files)) task.outputs) goes_on.source)
                ∙ files_are

            kept_there : (files : Files) → files ≡ kept old.files → (place : Place) (bytes : Bytes) → file_at files place ≡ Some bytes → (is_kept place ≡ true) × (file_at taken.files place ≡ Some bytes)
            kept_there files is place bytes e = by (is_kept place) refl (sym (file_at-files_where taken.files is_kept place) ∙ ap (λ (fs : Files). file_at fs place) (files_kept ∙ sym is) ∙ e)
              where
                by : (b : Bool) → is_kept place ≡ b → cond b (file_at taken.files place) None ≡ Some bytes → (is_kept place ≡ true) × (file_at taken.files place ≡ Some bytes)
                by true passes found = (passes, found)
                by false passes found = none_some found

        pub run_by_changes_failed : Executing (Err fault) lines after new
        run_by_changes_failed =
            gives_run_up (ByChanges taken.files) fault lines between mid after ran new early rises late changes blamed records same (refl, one, fitting) fails invents_so keeps_so

      -- ---- a run that ended

      module _ (lines : List Text) (ran : Contents) (sorted : is_sorted byte_order taken.files ≡ true)
          (well : EndsWell (run_input_in kinds task reported taken.files) lines ran.files) where
        -- it ended like a run that memory cut short after its last action
        as_cut : (between mid : ℕ) → Fails (run_input_in kinds task reported taken.files) InFull may_leave between faults.OutOfMemory lines mid ran.files
        as_cut between mid = cut_at_end (run_input_in kinds task reported taken.files) InFull may_leave between mid lines ran.files well refl

        abbrev files_made : Files
        files_made = (ended_runs_are_made kinds task reported taken.files lines ran.files well).0

        makes : made_of kinds task.actions task.values (trees_of task taken.files) task.outputs ≡ Ok files_made
        makes = (ended_runs_are_made kinds task reported taken.files lines ran.files well).1

        leaves : ran.files ≡ with_outputs task taken.files files_made
        leaves = (ended_runs_are_made kinds task reported taken.files lines ran.files well).2

        abbrev pub entry_made_then : Entry
        entry_made_then = entry_of task (with_outputs task (kept old.files) files_made)

        ended_none : (run_of kinds task (kept old.files)).fault ≡ None
        ended_none = ap (λ (e : Ended). e.fault) (sym run_read) ∙ well.no_fault

        ended_all : (run_of kinds task (kept old.files)).done ≡ task.actions
        ended_all =
            ap (λ (e : Ended). e.done) (sym run_read)
            ∙ all_done kinds task.outputs task.values (trees_of task taken.files) (rest_of task taken.files) task.actions [] well.no_fault

        ended_prints : lines ≡ lines_in kinds task reported (kept old.files) task.actions
        ended_prints = well.printed ∙ lines_read task.actions

        pub said_then : (inputs : List Prints) → inputs ≡ digests_in (trees_of task old.files) → IsSaidOf (run_now task inputs ran.files) entry_made_then
        said_then inputs is =
            said_entry kinds task out separate old.files taken.files sorted files_kept files_made makes ran.files leaves inputs
            (is ∙ ap digests_in (sym (trees_outside task old.files)))

        module _ (after : ℕ) (new : Contents) (changes : ChangesOnly (is_of_execution task) old new) (same : kept new.files ≡ kept ran.files) where
          has_ended : HasEnded kinds task world (record { folder = outside new; memory = memory_after task memory (with_outputs task (kept old.files) files_made) })
          has_ended = (
            files_made,
            makes_outside kinds task out separate old.files taken.files sorted files_kept files_made makes ran.files leaves,
            ap₂ (λ (fs : Files) (special : List (List ℕ)). let w : World = record { folder = record { files = fs; special = special }; memory = memory_after task memory (with_outputs task (kept old.files) files_made) } in w)
                (same ∙ leaves_outside kinds task out separate old.files taken.files sorted files_kept files_made makes ran.files leaves) changes.special,
          )

          -- all went well
          pub run_ended : IsRemembered task entry_made_then (forget memory task.path) (Ok tt) new.files → Executing (Ok tt) lines after new
          run_ended exists = record {
            memory = memory_after task memory (with_outputs task (kept old.files) files_made);
            execution = ended setting (own_files old) options plan task reported moment_then due lines
                (existing after new (memory_after task memory (with_outputs task (kept old.files) files_made))) has_ended ended_none ended_prints;
            records = by (is_empty task.outputs) exists;
          }
            where
              by : (b : Bool) → HoldsRecords new.files (if b then forget memory task.path else remember (forget memory task.path) task.path entry_made_then)
                  → HoldsRecords new.files (if b then forget memory task.path else remember memory task.path entry_made_then)
              by true exists = exists
              by false exists = subst (HoldsRecords new.files) (remember-forget memory task.path entry_made_then existed.in_order) exists

          -- its record was not stored
          module _ (inputs : List Prints) (inputs_are : inputs ≡ digests_in (trees_of task old.files)) (between mid : ℕ) (early : before ≤ between) (rises : between ≤ mid) (late : mid ≤ after)
              (before_record : ChangesOnly (is_of_execution task) old ran) (has_outputs : is_empty task.outputs ≡ false) where
            -- what is then at an output
            exists_of : (records : HoldsRecords new.files (forget memory task.path)) (place : Place) (bytes : Bytes) → is_output_of task place ≡ true → file_at (kept new.files) place ≡ Some bytes
                → (file_at (kept old.files) place ≡ Some bytes) ⊎ IsWritten kinds task (kept old.files) place bytes
            exists_of records place bytes output e =
                by_law (invents_then faults.OutOfMemory lines between mid after ran new early rises late changes (λ p d. absurd (let z = d in (cc))) records same (as_cut between mid) place bytes output e)
              where
                by_law : (file_at (kept old.files) place ≡ Some bytes) ⊎ IsWritten kinds task (kept old.files) place bytes ⊎ (faults.OutOfMemory ≡ faults.Device place)
                    → (file_at (kept old.files) place ≡ Some bytes) ⊎ IsWritten kinds task (kept old.files) place bytes
                by_law (inl there) = inl there
                by_law (inr (inl written)) = inr written
                by_law (inr (inr device)) = absurd (let z = device in (cc))

            prefix_then : (records : HoldsRecords new.files (forget memory task.path))
                → (count : ℕ) × (lines ≡ lines_in kinds task reported (kept old.files) (take count (run_of kinds task (kept old.files)).done))
            prefix_then records = prefix InFull faults.OutOfMemory lines between mid after ran new early rises late changes (λ p d. absurd (let z = d in (cc))) records same tt (as_cut between mid)

            made_then : made kinds task (kept old.files) ≡ Ok files_made
            made_then =
                ap (λ b. if b then Ok [] else made_of kinds task.actions task.values (trees_of task (kept old.files)) task.outputs) goes_on.source
                ∙ makes_outside kinds task out separate old.files taken.files sorted files_kept files_made makes ran.files leaves

            keeps_made : Keeps new
            keeps_made since files files_are place bytes right there =
                ap (λ (fs : Files). file_at fs place)
                (same ∙ leaves_outside kinds task out separate old.files taken.files sorted files_kept files_made makes ran.files leaves)
                ∙ at-put_over (rest_of task (kept old.files)) files_made place
                (made_of_is_right kinds task.outputs task.values (trees_of task taken.files) task.actions files_made makes).in_order
                ∙ ap (λ o. or_else o (file_at (rest_of task (kept old.files)) place)) (ap (λ (fs : Files). file_at fs place) (same_ok files_made files (sym made_then ∙ files_are)) ∙ right)

            -- given up, with what the run left
            given : (fault : Fault) → cause_of fault ≡ ByMachine
                → may_occur setting (own_files old) options task moment_then (existing after new (forget memory task.path)) fault
                → ((place : Place) → fault ≡ faults.Device place → is_output_of task place ≡ true)
                → HoldsRecords new.files (forget memory task.path) → Executing (Err fault) lines after new
            given fault machine may at records =
                gives_up fault lines after new changes (λ place bytes output e. invents_so place bytes (exists_of records place bytes output e)) keeps_made
                (by_machine machine may (prefix_then records).0 (prefix_then records).1) at records
              where
                invents_so : (place : Place) (bytes : Bytes) → (file_at (kept old.files) place ≡ Some bytes) ⊎ IsWritten kinds task (kept old.files) place bytes
                    → (file_at (kept old.files) place ≡ Some bytes) ⊎ IsWritten kinds task (kept old.files) place bytes ⊎ (fault ≡ faults.Device place)
                invents_so place bytes (inl there) = inl there
                invents_so place bytes (inr written) = inr (inl written)

            -- ---- the record of the run

            abbrev text_then : Bytes
            text_then = record_text task.path (run_now task inputs ran.files)

            abbrev too_long_of : Result Files (List Fault) → Bool
            too_long_of (Ok made_files) = not (is_empty task.outputs) && not (has_no_source task (kept old.files))
                && nat_lt max_record
                (length (record_text task.path (record_of sha256 (entry_of task (with_outputs task (kept old.files) made_files)))))
            too_long_of (Err hindrances) = false

            too_long : nat_lt max_record (length text_then) ≡ true → is_record_too_long setting task (kept old.files) ≡ true
            too_long e =
                let by_made : is_record_too_long setting task (kept old.files) ≡ too_long_of (made kinds task (kept old.files)) = refl in
                let same_text : length (record_text task.path (record_of sha256 entry_made_then)) ≡ length text_then =
                ap (λ (run : Record). length (record_text task.path run)) (sym (said_then inputs inputs_are)) in
                by_made ∙ ap too_long_of made_then
                ∙ (λ i. (not (has_outputs i) && not (goes_on.source i)) && (ap (nat_lt max_record) same_text ∙ e) i)

            may_fail_then : (CannotBeStored ran.files task.path (Some text_then) ⊎ HasRisen between mid) → (now : Memory)
                → may_occur setting (own_files old) options task moment_then (existing after new now) faults.HistoryNotWritten
            may_fail_then (inl (inl exist)) now = (touches (inl has_outputs), inr (inl (shut_out ran.files (in_way_before task old.files ran.files before_record.elsewhere out) exist)))
            may_fail_then (inl (inr long)) now = (touches (inl has_outputs), inr (inr (too_long long)))
            may_fail_then (inr risen) now = (touches (inl has_outputs), inl (HasRisen-after before mid after (HasRisen-before before between mid early rises risen) late))

            pub unrecorded : (fault : Fault) → IsUnwritten task.path (Some text_then) ran.files between mid fault
                → IsRemembered task entry_made_then (forget memory task.path) (Err fault) new.files → Executing (Err fault) lines after new
            unrecorded fault why exists = by why
              where
                for_memory : fault ≡ faults.OutOfMemory → Executing (Err fault) lines after new
                for_memory is =
                    subst (λ (f : Fault). Executing (Err f) lines after new) (sym is)
                    (given faults.OutOfMemory refl tt (λ p d. absurd (let z = d in (cc))) (subst (λ (f : Fault). IsRemembered task entry_made_then (forget memory task.path) (Err f) new.files) is exists))

                for_record : (CannotBeStored ran.files task.path (Some text_then) ⊎ HasRisen between mid)
                    → IsRemembered task entry_made_then (forget memory task.path) (Err faults.HistoryNotWritten) new.files → Executing (Err faults.HistoryNotWritten) lines after new
                for_record unwritten (inl records) = given faults.HistoryNotWritten refl (may_fail_then unwritten (forget memory task.path)) (λ p d. absurd (let z = d in (cc))) records
                for_record unwritten (inr (inl whole)) = record {
                  memory = memory_after task memory (with_outputs task (kept old.files) files_made);
                  execution = torn setting (own_files old) options plan task reported moment_then due lines
                      (existing after new (memory_after task memory (with_outputs task (kept old.files) files_made)))
                      (length (run_of kinds task (kept old.files)).done) has_ended
                      (may_fail_then unwritten (memory_after task memory (with_outputs task (kept old.files) files_made)))
                      (ended_prints ∙ ap (lines_in kinds task reported (kept old.files)) (sym all_of_them));
                  records =
                      subst (λ b. HoldsRecords new.files (if b then forget memory task.path else remember memory task.path entry_made_then)) (sym has_outputs)
                      (subst (HoldsRecords new.files) (remember-forget memory task.path entry_made_then existed.in_order) whole);
                }
                  where
                    all_of_them : take (length (run_of kinds task (kept old.files)).done) (run_of kinds task (kept old.files)).done ≡ task.actions
                    all_of_them = take_whole (run_of kinds task (kept old.files)).done ∙ ended_all
                for_record unwritten (inr (inr gone)) =
                    given faults.HistoryNotWritten refl (may_fail_then unwritten (forget memory task.path)) (λ p d. absurd (let z = d in (cc)))
                    (subst (HoldsRecords new.files) (forget-forget memory task.path existed.in_order) gone)

                by : IsUnwritten task.path (Some text_then) ran.files between mid fault → Executing (Err fault) lines after new
                by (inl is) = for_memory is
                by (inr unwritten) =
                    subst (λ (f : Fault). Executing (Err f) lines after new) (sym unwritten.0)
                    (for_record unwritten.1 (subst (λ (f : Fault). IsRemembered task entry_made_then (forget memory task.path) (Err f) new.files) unwritten.0 exists))
