-- How a task's record and outputs were deleted.
use Rattle.std.specs.Prelude.{ℕ, ◌≡◌, ◌⊎◌, Bool, true, None, Result, Ok, Err}
use Rattle.gb_folder.specs.Files.{Contents, IsFolder, Tearing}
use Rattle.gb_history.specs.Places.{record_place}
use Rattle.gb_semantics.specs.Made.{rest_of}
use Rattle.gb_semantics.specs.Memory.{Memory, forget}
use Rattle.gb_plan.specs.declared.task.TaskDeclaration.{TaskDeclaration as Task}
use Rattle.gb_records.specs.Holding.{HoldsRecords}
use Rattle.gb_report.specs.declared.fault.Fault.{Fault}
use Rattle.gb_run.specs.Emptying.{CannotEmpty}
use Rattle.gb_folder.specs.Changes.{ChangesOnly, is_at}
use Rattle.gb_task.specs.Keeping.{IsForgotten, IsUnwritten}

-- The record was deleted, and then the outputs were emptied.
pub record IsCleared (task : Task) (memory : Memory) (old new : Contents) : Type 0 where
  pub taken : Contents
  pub is_folder : IsFolder taken.files
  pub out : ChangesOnly (is_at (record_place task.path)) old taken
  pub emptied : new.files ≡ rest_of task taken.files
  pub records : HoldsRecords new.files (forget memory task.path)

-- The record was not deleted, though it was read.
pub record IsKept (task : Task) (was_read : Bool) (memory : Memory) (before : ℕ) (old : Contents)
    (fault : Fault) (after : ℕ) (new : Contents) : Type 0 where
  pub read : was_read ≡ true
  pub why : IsUnwritten task.path None old.files before after fault
  pub changes : ChangesOnly (is_at (record_place task.path)) old new
  pub records : IsForgotten task.path memory (Err fault) new.files

-- The record was deleted, and then the outputs were not emptied.
pub record IsHalfCleared (task : Task) (memory : Memory) (may_leave : Tearing) (before : ℕ) (old : Contents)
    (fault : Fault) (after : ℕ) (new : Contents) : Type 0 where
  pub taken : Contents
  pub out : ChangesOnly (is_at (record_place task.path)) old taken
  pub why : CannotEmpty task may_leave before taken fault after new
  pub records : HoldsRecords new.files (forget memory task.path)

abbrev pub HasCleared : Task → Bool → Memory → Tearing → ℕ → Contents → Result (Unit {0}) Fault → ℕ → Contents
    → Type 0
HasCleared task was_read memory may_leave before old (Ok done) after new = IsCleared task memory old new
HasCleared task was_read memory may_leave before old (Err fault) after new =
    IsKept task was_read memory before old fault after new
    ⊎ IsHalfCleared task memory may_leave before old fault after new
