-- Which records exist in a folder, and what calls do to them.
use Rattle.std.specs.Prelude.{ℕ, ◌≡◌, ◌⊎◌, Bool, false, not, ◌||◌, length, nat_lt, if◌then◌else◌, Option}
use Rattle.std.specs.Prelude.{Some, None, Result, Ok, Err, IsTrue}
use Rattle.std.specs.List.{AllByRecursion}
use Rattle.std.specs.FinMap.Entries.{is_sorted}
use Rattle.sha2.specs.Sha256.{sha256}
use Rattle.gb_core.specs.Lists.{byte_order}
use Rattle.gb_core.specs.Path.{is_task_path}
use Rattle.gb_core.specs.Place.{is_place}
use Rattle.gb_folder.specs.Files.{Bytes, Files, Contents, HasRisen, Tearing, file_at, IsTorn}
use Rattle.gb_folder.specs.Files.{is_blocked, with_file, without}
use Rattle.gb_plan.specs.Task.{Path}
use Rattle.gb_history.specs.Record.{Record}
use Rattle.gb_history.specs.Text.{record_text}
use Rattle.gb_history.specs.Places.{record_place}
use Rattle.gb_semantics.specs.Events.{max_record}
use Rattle.gb_semantics.specs.Memory.{Entry, Memory, recalled, remember, forget}
use Rattle.gb_semantics.specs.TrueRecord.{Stores}
use Rattle.gb_records.specs.Said.{IsText}
use Rattle.gb_records.specs.declared.fault.Unwritten.{Unwritten}
use Rattle.gb_records.specs.declared.fault.Unwritten.TheVariants as unwritten

-- The files hold the records of this memory, path by path.
pub record HoldsRecords (files : Files) (memory : Memory) : Type 0 where
  pub in_order : IsTrue (is_sorted byte_order memory)
  pub of_tasks : AllByRecursion (λ entry. IsTrue (is_task_path entry.0)) memory
  pub records : (path : Path) → IsTrue (is_task_path path)
      → Stores sha256 IsText path (file_at files (record_place path)) (recalled memory path)

-- ---- What calls leave

-- the folder without the task's record, if one was read
abbrev pub taken_out : Bool → Path → Contents → Contents
taken_out was_read path folder =
    if was_read then record folder { files = without folder.files (record_place path) } else folder

-- the folder with the record of a run
abbrev pub written_in : Path → Record → Contents → Contents
written_in path run folder =
    record folder { files = with_file folder.files (record_place path) (record_text path run) }

abbrev pub is_too_long : Option Bytes → Bool
is_too_long None = false
is_too_long (Some bytes) = nat_lt max_record (length bytes)

-- no file can be at the record's place, or its text is too long
abbrev pub CannotBeStored : Files → Path → Option Bytes → Type 0
CannotBeStored files path next =
    IsTrue (not (is_place (record_place path)) || is_blocked files (record_place path))
    ⊎ IsTrue (is_too_long next)

-- A call that was to leave this at a record's place failed. Either nothing changed, as memory ran out or the
-- record cannot be there; or the device stopped the call, and left what it may.
abbrev pub ComesToNothing : Tearing → Path → Option Bytes → ℕ → ℕ → Contents → Unwritten → Contents
    → Type 0
ComesToNothing may_leave path next before after old unwritten.OutOfMemory new = new ≡ old
ComesToNothing may_leave path next before after old unwritten.NotWritten new =
    ((new ≡ old) × CannotBeStored old.files path next)
    ⊎ (HasRisen before after × IsTrue (not (is_too_long next))
    × IsTorn may_leave (record_place path) next old new)

-- ---- Which records exist after a call

-- the task's record is gone; if the call failed it may still be there
abbrev pub HoldsWithout : Path → Memory → Result (Unit {0}) Unwritten → Files → Type 0
HoldsWithout path memory (Ok done) files = HoldsRecords files (forget memory path)
HoldsWithout path memory (Err unwritten.OutOfMemory) files = HoldsRecords files memory
HoldsWithout path memory (Err unwritten.NotWritten) files =
    HoldsRecords files memory ⊎ HoldsRecords files (forget memory path)

-- the task's record is the new one; if the call failed it may be the old one, the new one, or none
abbrev pub HoldsWith : Path → Entry → Memory → Result (Unit {0}) Unwritten → Files → Type 0
HoldsWith path entry memory (Ok done) files = HoldsRecords files (remember memory path entry)
HoldsWith path entry memory (Err unwritten.OutOfMemory) files = HoldsRecords files memory
HoldsWith path entry memory (Err unwritten.NotWritten) files =
    HoldsRecords files memory ⊎ HoldsRecords files (remember memory path entry)
    ⊎ HoldsRecords files (forget memory path)
