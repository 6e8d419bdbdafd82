-- Consequences for a task's execution of how the run of its actions ends.
use Rattle.std.specs.Prelude.{ℕ, ◌≡◌, ◌⊎◌, false, true, List, Some, Ok, IsTrue, take, ⊤}
use Rattle.std.specs.List.{AllByRecursion}
use Rattle.std.specs.FinMap.Entries.{is_sorted}
use Rattle.gb_core.specs.Lists.{byte_order}
use Rattle.gb_folder.specs.Files.{Place, Bytes, Contents, Files, file_at}
use Rattle.gb_report.specs.declared.fault.Fault.{Fault}
use Rattle.gb_report.specs.declared.fault.Fault.TheVariants as faults
use Rattle.gb_action.specs.Changes.{Changes}
use Rattle.gb_action.specs.Files.{Trees}
use Rattle.gb_plan.specs.Task.{Text, is_output_of}
use Rattle.gb_plan.specs.declared.task.TaskDeclaration.{TaskDeclaration as Task}
use Rattle.gb_semantics.specs.Kinds.{Kinds}
use Rattle.gb_semantics.specs.Tree.{has_no_source, trees_of}
use Rattle.gb_semantics.specs.Made.{made_of, rest_of, with_outputs}
use Rattle.gb_semantics.specs.Label.{has_one_writer, run_of}
use Rattle.gb_semantics.specs.Execution.{IsWritten, lines_of}
use Rattle.gb_semantics.specs.Events.{IsTornInRun, Setting, ExistsInRun}
use Rattle.gb_run.specs.AskingChanges.{IsFitting}
use Rattle.gb_run.specs.RunInput.{RunInput, EndsWell, run_input}
use Rattle.gb_run.specs.Digests.{prints_at}
use Rattle.gb_run.specs.Emptying.{CannotEmpty}
use Rattle.gb_run.specs.Failing.{ByChanges, Fails, InFull, RunMode}

-- the input of a task's run over these files, once those at its outputs are gone
abbrev pub run_input_in : Kinds → Task → List Changes → Files → RunInput
run_input_in kinds task changes files =
    run_input kinds task (trees_of task files) changes (rest_of task files)

-- A run that ended well leaves what the actions make, in the emptied output places.
abbrev pub EndedRunsAreMade : Type 0
EndedRunsAreMade =
    (kinds : Kinds) (task : Task) (changes : List Changes) (old : Files) (lines : List Text) (new : Files)
    → EndsWell (run_input_in kinds task changes old) lines new →
    (files : Files) × (made_of kinds task.actions task.values (trees_of task old) task.outputs ≡ Ok files)
    × (new ≡ with_outputs task old files)

-- Its digests are those of the files at the outputs then.
abbrev pub MadeExists : Type 0
MadeExists =
    (kinds : Kinds) (task : Task) (trees : Trees) (changes : List Changes) (old : Files)
    (lines : List Text) (new held : Files) → IsTrue (is_sorted byte_order old)
    → EndsWell (run_input kinds task trees changes (rest_of task old)) lines new
    → made_of kinds task.actions task.values trees task.outputs ≡ Ok held →
    prints_at task.outputs new ≡ prints_at task.outputs held

-- ---- A run that fails

-- A run of the task over these files may have this mode: incremental from them if one action writes, and each
-- keeps to its own output.
abbrev pub IsWayOf : Kinds → Task → Files → RunMode → Type 0
IsWayOf kinds task old InFull = ⊤
IsWayOf kinds task old (ByChanges existed) =
    (existed ≡ old) × IsTrue (has_one_writer kinds task.actions)
    × AllByRecursion (IsFitting kinds task) task.actions

-- How a task's run in this mode fails.
pub record Failure (setting : Setting) (mode : RunMode) (task : Task) (changes : List Changes) (old : Files)
    (fault : Fault) (lines : List Text) (new : Files) : Type 0 where
  pub is_way : IsWayOf setting.kinds task old mode
  pub before : ℕ
  pub after : ℕ
  pub fails : Fails (run_input_in setting.kinds task changes old) mode setting.may_leave before fault
      lines after new

-- It prints the lines of a prefix of the actions that end.
abbrev pub FailedRunsPrintPrefixes : Setting → Type 0
FailedRunsPrintPrefixes setting =
    (mode : RunMode) (task : Task) (changes : List Changes) (old : Files) (fault : Fault)
    (lines : List Text) (new : Files)
    → Failure setting mode task changes old fault lines new →
    (count : ℕ) × (lines ≡ lines_of setting.kinds task (trees_of task old) changes
    (take count (run_of setting.kinds task old).done))

-- In a full execution each file at the outputs is written by an action that the run reached, except where the
-- device failed.
abbrev pub FailedRunsInventNothingInFull : Setting → Type 0
FailedRunsInventNothingInFull setting =
    (task : Task) (changes : List Changes) (old : Files) (fault : Fault)
    (lines : List Text) (new : Files)
    → has_no_source task old ≡ false → Failure setting InFull task changes old fault lines new →
    (place : Place) (bytes : Bytes) → is_output_of task place ≡ true → file_at new place ≡ Some bytes →
    IsWritten setting.kinds task old place bytes ⊎ (fault ≡ faults.Device place)

-- In an incremental execution it may also be one that was there before.
abbrev pub FailedRunsInventNothingByChanges : Setting → Type 0
FailedRunsInventNothingByChanges setting =
    (task : Task) (changes : List Changes) (old : Files) (fault : Fault)
    (lines : List Text) (new : Files)
    → has_no_source task old ≡ false → Failure setting (ByChanges old) task changes old fault lines new →
    (place : Place) (bytes : Bytes) → is_output_of task place ≡ true → file_at new place ≡ Some bytes →
    (file_at old place ≡ Some bytes) ⊎ IsWritten setting.kinds task old place bytes
    ⊎ (fault ≡ faults.Device place)

-- In an incremental execution a file that was as it is to be made stays.
abbrev pub FailedRunsKeepRightFiles : Setting → Type 0
FailedRunsKeepRightFiles setting =
    (task : Task) (changes : List Changes) (old : Files) (fault : Fault)
    (lines : List Text) (new : Files)
    → Failure setting (ByChanges old) task changes old fault lines new → (files : Files)
    → made_of setting.kinds task.actions task.values (trees_of task old) task.outputs ≡ Ok files →
    (place : Place) (bytes : Bytes) → file_at files place ≡ Some bytes → file_at old place ≡ Some bytes →
    file_at new place ≡ Some bytes

-- Where the device failed, the content is what it may leave of what was there in the run and what was to be
-- there.
abbrev pub TornPlacesAreOfTheRun : Setting → Type 0
TornPlacesAreOfTheRun setting =
    (mode : RunMode) (task : Task) (changes : List Changes) (old : Files) (place : Place)
    (lines : List Text) (new : Files)
    → has_no_source task old ≡ false → is_output_of task place ≡ true
    → Failure setting mode task changes old (faults.Device place) lines new →
    IsTornInRun setting task old place (file_at new place)

-- ---- Emptied outputs

-- If the outputs could not be emptied, each file was there before, except where the device failed.
abbrev pub CutEmptyingsInventNothing : Setting → Type 0
CutEmptyingsInventNothing setting =
    (task : Task) (before : ℕ) (old : Contents) (fault : Fault) (after : ℕ) (new : Contents)
    → CannotEmpty task setting.may_leave before old fault after new →
    (place : Place) (bytes : Bytes) → file_at new.files place ≡ Some bytes →
    (file_at old.files place ≡ Some bytes) ⊎ (fault ≡ faults.Device place)

-- Where the device failed then, the content is what was there before, or torn.
abbrev pub TornPlacesAreOfTheEmptying : Setting → Type 0
TornPlacesAreOfTheEmptying setting =
    (task : Task) (before : ℕ) (old : Contents) (place : Place) (after : ℕ) (new : Contents)
    → CannotEmpty task setting.may_leave before old (faults.Device place) after new →
    ExistsInRun setting.kinds task old.files place (file_at new.files place)
    ⊎ IsTornInRun setting task old.files place (file_at new.files place)
