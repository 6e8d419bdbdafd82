-- What was read at the place of a task's record, before it is read as a record.
use Rattle.std.specs.Prelude.{◌≡◌, ◌≤◌, [], Option, Some, None, Ok, ⊤, length}
use Rattle.gb_folder.specs.Answers.{IsOnWay}
use Rattle.gb_folder.specs.Calls.{Reads}
use Rattle.gb_folder.specs.Files.{Bytes, Files, file_at}
use Rattle.gb_history.specs.Places.{record_place}
use Rattle.gb_history.specs.Record.{Record}
use Rattle.gb_history.specs.Text.{unsealed}
use Rattle.gb_semantics.specs.Events.{max_record}
use Rattle.gb_plan.specs.Task.{Path}
use Rattle.gb_records.specs.Said.{IsReadAs, IsReadAt}
use Rattle.gb_folder.specs.Calls.{Device}

-- the bytes are those of the record's file; if there are none, no record is there
abbrev pub IsTextAt : Files → Path → Option Bytes → Type 0
IsTextAt files path None = IsReadAt files path None
IsTextAt files path (Some bytes) =
    (file_at files (record_place path) ≡ Some bytes) × (length bytes ≤ max_record)

-- a read of the record's place on the way returned the bytes
abbrev pub WasTextAnswered : {F : Type 0} → Device F → F → F → Path
    → Option Bytes → Type 0
WasTextAnswered device old new path None = ⊤
WasTextAnswered device old new path (Some bytes) =
    (length bytes ≤ max_record)
    × IsOnWay device (Reads (record_place path) max_record (Ok bytes)) old new

-- the text is that of this task, and was read there
abbrev pub IsStoredAt : Files → Path → Path × Option Bytes → Type 0
IsStoredAt files path text = (text.0 ≡ path) × IsTextAt files path text.1

abbrev pub WasStoredAt : {F : Type 0} → Device F → F → F → Path
    → Path × Option Bytes → Type 0
WasStoredAt device old new path text =
    (text.0 ≡ path) × WasTextAnswered device old new path text.1

-- the record that a text is read as; none, if there is no text
abbrev pub IsRecordIn : Path → Option Bytes → Option Record → Type 0
IsRecordIn path None read = read ≡ None
IsRecordIn path (Some bytes) read = length bytes ≤ max_record → IsReadAs path (Some bytes) read

abbrev pub IsRecordOf : Path × Option Bytes → Option Record → Type 0
IsRecordOf text read = IsRecordIn text.0 text.1 read

-- what the seal of a text is of
abbrev pub unsealed_in : Option Bytes → Bytes
unsealed_in None = []
unsealed_in (Some bytes) = unsealed bytes
