-- What calls answered of a record, over any folder.
use Rattle.std.specs.Prelude.{Option, Some, None, Ok, ⊤}
use Rattle.gb_folder.specs.Answers.{IsOnWay}
use Rattle.gb_folder.specs.Calls.{Reads}
use Rattle.gb_folder.specs.Files.{Bytes}
use Rattle.gb_history.specs.Places.{record_place}
use Rattle.gb_history.specs.Record.{Record}
use Rattle.gb_semantics.specs.Events.{max_record}
use Rattle.gb_plan.specs.Task.{Path}
use Rattle.gb_records.specs.Said.{IsText}
use Rattle.gb_folder.specs.Calls.{Device}

-- a read of the record's place on the way returned a text of the record
abbrev pub WasAnswered : {F : Type 0} → Device F → F → F → Path
    → Option Record → Type 0
WasAnswered device old new path None = ⊤
WasAnswered device old new path (Some run) =
    (bytes : Bytes) × IsText path run bytes
    × IsOnWay device (Reads (record_place path) max_record (Ok bytes)) old new
