-- The stages of an execution that changes files: the calls that each makes, the lines that it prints, and how
-- it ends.
use Rattle.std.specs.Prelude.{◌≡◌, ◌⊎◌, ◌++◌, Bool, true, false, List, [], Ok, Err, IsTrue}
use Rattle.gb_action.specs.Changes.{Changes}
use Rattle.gb_action.specs.Files.{Trees}
use Rattle.gb_action.specs.Meanings.{Meanings}
use Rattle.gb_action.specs.declared.output_files.OutputFiles.{OutputFiles}
use Rattle.gb_folder.specs.Calls.{Call}
use Rattle.gb_folder.specs.Each.{Ended, OrStops}
use Rattle.gb_folder.specs.Files.{Files, IsFolder, are_placed, is_empty}
use Rattle.gb_history.specs.Record.{Record}
use Rattle.gb_semantics.specs.Headline.{Agrees}
use Rattle.gb_semantics.specs.Kinds.{Kinds}
use Rattle.gb_plan.specs.Ready.{Rows}
use Rattle.gb_plan.specs.Task.{Path, Text}
use Rattle.gb_plan.specs.declared.task.TaskDeclaration.{TaskDeclaration as Task}
use Rattle.gb_records.specs.Called.{Deletion, Storing}
use Rattle.gb_records.specs.Faults.{reported_of}
use Rattle.gb_records.specs.declared.fault.Unwritten.{Unwritten}
use Rattle.gb_report.specs.declared.fault.Fault.TheVariants as faults
use Rattle.gb_run.specs.AskingChanges.{GoesOn}
use Rattle.gb_run.specs.RunInput.{run_input}
use Rattle.gb_run.specs.Doing.{Ending}
use Rattle.gb_run.specs.Emptying.{Emptying}
use Rattle.gb_run.specs.Work.{AreAtOutputs, RunsInFull}
use Rattle.gb_run.specs.WorkByChanges.{RunsByChanges, increment_of}
use Rattle.gb_task.specs.Keeping.{IsRecordOf}
use Rattle.gb_task.specs.Reading.{added_of}

-- A stage: by these calls, with these lines, and with this end.
abbrev pub Stage : Type 1
Stage = List Call → List Text → Ending → Type 0

-- The second stage follows the first if that went well.
abbrev pub Then : Stage → Stage → Stage
Then first second calls lines result =
    (here : List Call) × (later : List Call) × (printed : List Text) × (more : List Text) × (mid : Ending)
    × (calls ≡ here ++ later) × (lines ≡ printed ++ more) × first here printed mid
    × OrStops mid (second later more result) later more result

-- or memory ran out before the stage began
abbrev pub OrNone : Stage → Stage
OrNone stage calls lines result =
    ((calls ≡ []) × (lines ≡ []) × (result ≡ Err faults.OutOfMemory)) ⊎ stage calls lines result

-- a stage that prints nothing
abbrev pub Silently : (List Call → Ending → Type 0) → Stage
Silently stage calls lines result = (lines ≡ []) × stage calls result

-- ---- The record and the outputs

-- how the deletion or the storing of a record ends for the execution
abbrev pub as_ending : Ended Unwritten → Ending
as_ending (Ok done) = Ok tt
as_ending (Err fault) = Err (reported_of fault)

-- the record of the task is deleted, if one was read
abbrev pub DeletesRecord : Path → Bool → List Call → Ending → Type 0
DeletesRecord path was_read calls result =
    (ended : Ended Unwritten) × Deletion path was_read calls ended × (result ≡ as_ending ended)

-- What is left of the last execution is removed: the record, and then the files at the outputs.
abbrev pub Clears : Task → Bool → Stage
Clears task was_read = Then (Silently (DeletesRecord task.path was_read)) (Silently (Emptying task.outputs))

-- a record is stored, unless the task has no outputs
abbrev pub StoresUnless : Bool → Path → Record → List Call → Ending → Type 0
StoresUnless true path run calls result = (calls ≡ []) × (result ≡ Ok tt)
StoresUnless false path run calls result =
    (ended : Ended Unwritten) × Storing path run calls ended × (result ≡ as_ending ended)

abbrev pub StoresRecord : Task → Record → List Call → Ending → Type 0
StoresRecord task run = StoresUnless (is_empty task.outputs) task.path run

-- a record with this property is stored
abbrev pub Stores : Task → (Record → Type 0) → Stage
Stores task IsRight =
    OrNone (Silently (λ calls result. (run : Record) × IsRight run × StoresRecord task run calls result))

-- ---- Runs

-- The record of a run was made, by how the run of the actions ended: memory may run out for it.
abbrev pub HasMade : Ending → Ending → Type 0
HasMade (Ok done) result = (result ≡ Ok tt) ⊎ (result ≡ Err faults.OutOfMemory)
HasMade (Err fault) result = result ≡ Err fault

module _ {S : Type 0} (meanings : Meanings S) (rows : Rows S) (task : Task) (trees : Trees) where
  -- the record of a full run on these trees
  abbrev pub IsOfFullRun : Record → Type 0
  IsOfFullRun run = (kinds : Kinds) → Agrees meanings rows kinds → IsRecordOf kinds task trees run

  -- just what the actions make of these trees is written, given these changes to report to them
  abbrev pub WritesGiven : List Changes → Stage
  WritesGiven changes calls lines result =
      AreAtOutputs task calls
      × ((kinds : Kinds) → Agrees meanings rows kinds
      → RunsInFull (run_input kinds task trees changes []) calls lines result)

  -- the same, where each file is reported as added
  abbrev pub WritesAll : Stage
  WritesAll = WritesGiven (added_of task.files trees)

  -- A full run on these trees: what is left of the last execution is removed, just what the actions make of
  -- the trees is written, and the record of just this is stored.
  abbrev pub FullRun : Bool → Stage
  FullRun was_read = OrNone (Then (Clears task was_read) (Then WritesAll (Stores task IsOfFullRun)))

  module _ (changes : List Changes) (observed : List OutputFiles) where
    -- The record of a run by these changes from outputs with these files: the same record, if the outputs
    -- were made of old trees from which the changes lead to the new ones.
    abbrev pub IsOfRunByChanges : Record → Type 0
    IsOfRunByChanges run =
        (kinds : Kinds) → Agrees meanings rows kinds → (before : Trees) (existing : Files) → IsFolder existing
        → IsTrue (are_placed existing) → GoesOn kinds task before trees changes observed existing
        → IsRecordOf kinds task trees run

    -- just what the actions answer to the changes is written and removed
    abbrev pub WritesChanges : Stage
    WritesChanges calls lines result =
        AreAtOutputs task calls
        × ((kinds : Kinds) → Agrees meanings rows kinds
        → RunsByChanges (increment_of kinds task trees changes observed) calls lines result)

    -- A run by these changes: the record is deleted, just what the actions answer to the changes is written
    -- and removed, and the record of just this is stored.
    abbrev pub RunByChanges : Stage
    RunByChanges =
        Then (Silently (DeletesRecord task.path true)) (Then WritesChanges (Stores task IsOfRunByChanges))
