-- Which record a text is, in the terms of builds.
use Rattle.std.specs.Prelude.{◌≡◌, ◌≤◌, length, Option, Some, None}
use Rattle.std.specs.Str.{IsUtf8}
use Rattle.sha2.specs.Sha256.{sha256}
use Rattle.gb_folder.specs.Files.{Bytes, Files, file_at}
use Rattle.gb_plan.specs.Task.{Path}
use Rattle.gb_history.specs.Record.{Record, IsWellFormed}
use Rattle.gb_history.specs.Text.{IsTextOf}
use Rattle.gb_history.specs.Places.{record_place}
use Rattle.gb_semantics.specs.Events.{max_record}
use Rattle.gb_semantics.specs.Memory.{Entry}
use Rattle.gb_semantics.specs.TrueRecord.{IsTextOfNoRecord, record_of}

-- The bytes are the text of this record of the task, and at most 64 MiB.
pub record IsText (path : Path) (run : Record) (bytes : Bytes) : Type 0 where
  pub utf8 : IsUtf8 path
  pub held : IsWellFormed run
  pub text : IsTextOf path run bytes
  pub short : length bytes ≤ max_record

-- what is read of a task with this content: the record whose text it is, or none if it is the text of none
abbrev pub IsReadAs : Path → Option Bytes → Option Record → Type 0
IsReadAs path left None = IsTextOfNoRecord IsText path left
IsReadAs path left (Some run) = (bytes : Bytes) × (left ≡ Some bytes) × IsText path run bytes

-- what is read of a task in these files
abbrev pub IsReadAt : Files → Path → Option Record → Type 0
IsReadAt files path read = IsReadAs path (file_at files (record_place path)) read

-- the record is that of the entry
abbrev pub IsSaidOf : Record → Entry → Type 0
IsSaidOf run entry = run ≡ record_of sha256 entry
