-- How a task's record changes.
use Rattle.std.specs.Prelude.{ℕ, ◌≡◌, ◌⊎◌, List, Option, Result, Ok, Err, map, if◌then◌else◌}
use Rattle.gb_action.specs.Files.{Trees}
use Rattle.gb_folder.specs.Files.{Bytes, Files, HasRisen, is_empty}
use Rattle.gb_history.specs.Record.{Prints, Record}
use Rattle.gb_label.specs.Reading.{digests_in, recorded_of}
use Rattle.gb_semantics.specs.Kinds.{Kinds}
use Rattle.gb_semantics.specs.Made.{made_of}
use Rattle.gb_semantics.specs.Memory.{Entry, Memory, forget, remember}
use Rattle.gb_plan.specs.Task.{Path}
use Rattle.gb_plan.specs.declared.task.TaskDeclaration.{TaskDeclaration as Task}
use Rattle.gb_records.specs.Holding.{CannotBeStored, HoldsRecords}
use Rattle.gb_report.specs.declared.fault.Fault.{Fault}
use Rattle.gb_report.specs.declared.fault.Fault.TheVariants as faults

-- a run of the task with these input digests, whose outputs are those of these files
abbrev pub run_now : Task → List Prints → Files → Record
run_now task inputs files = record {
  actions = task.actions;
  values = task.values;
  inputs = inputs;
  outputs = map (recorded_of files) task.outputs;
}

-- Why a record was not deleted or stored: memory ran out; or it cannot be there, or the device failed.
abbrev pub IsUnwritten : Path → Option Bytes → Files → ℕ → ℕ → Fault → Type 0
IsUnwritten path next files before after fault =
    (fault ≡ faults.OutOfMemory)
    ⊎ ((fault ≡ faults.HistoryNotWritten) × (CannotBeStored files path next ⊎ HasRisen before after))

-- The record is that of a run of the task on these trees, whose outputs are what its actions make of them.
abbrev pub IsRecordOf : Kinds → Task → Trees → Record → Type 0
IsRecordOf kinds task trees run =
    (files : Files) × (made_of kinds task.actions task.values trees task.outputs ≡ Ok files)
    × (run ≡ run_now task (digests_in trees) files)

-- which records exist after the deletion of a task's record, or after its failure
abbrev pub IsForgotten : Path → Memory → Result (Unit {0}) Fault → Files → Type 0
IsForgotten path memory (Ok done) files = HoldsRecords files (forget memory path)
IsForgotten path memory (Err faults.HistoryNotWritten) files =
    HoldsRecords files memory ⊎ HoldsRecords files (forget memory path)
IsForgotten path memory (Err fault) files = HoldsRecords files memory

-- which records exist after a task's record was stored, where it has outputs, or after that failed
abbrev pub IsRemembered : Task → Entry → Memory → Result (Unit {0}) Fault → Files → Type 0
IsRemembered task entry memory (Ok done) files =
    HoldsRecords files (if is_empty task.outputs then memory else remember memory task.path entry)
IsRemembered task entry memory (Err faults.HistoryNotWritten) files =
    HoldsRecords files memory ⊎ HoldsRecords files (remember memory task.path entry)
    ⊎ HoldsRecords files (forget memory task.path)
IsRemembered task entry memory (Err fault) files = HoldsRecords files memory
