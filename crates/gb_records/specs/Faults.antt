-- The faults of records, and how they are reported.
use Rattle.std.specs.Prelude.{ℕ, Option, None, Result, Ok, Err}
use Rattle.gb_folder.specs.Files.{Bytes, Place}
use Rattle.gb_folder.specs.declared.folder.FolderFault.{FolderFault}
use Rattle.gb_folder.specs.declared.folder.FolderFault.TheVariants as folders
use Rattle.gb_report.specs.declared.fault.Fault.{Fault}
use Rattle.gb_report.specs.declared.fault.Fault.TheVariants as faults
use Rattle.gb_records.specs.declared.fault.Unwritten.{Unwritten}
use Rattle.gb_records.specs.declared.fault.Unwritten.TheVariants as unwritten

abbrev pub unwritten_number : Unwritten → ℕ
unwritten_number unwritten.OutOfMemory = 3
unwritten_number unwritten.NotWritten = 90

-- the fault as a build reports it
abbrev pub reported_of : Unwritten → Fault
reported_of unwritten.OutOfMemory = faults.OutOfMemory
reported_of unwritten.NotWritten = faults.HistoryNotWritten

-- the result of a folder's fault at a record's place
abbrev pub unwritten_for : FolderFault → Unwritten
unwritten_for folders.OutOfMemory = unwritten.OutOfMemory
unwritten_for folders.Device = unwritten.NotWritten
unwritten_for folders.Missing = unwritten.NotWritten
unwritten_for folders.Blocked = unwritten.NotWritten
unwritten_for folders.TooLarge = unwritten.NotWritten
unwritten_for folders.BadFileName = unwritten.NotWritten

-- the result for a read: no text, unless memory or the device failed
abbrev pub none_for : Place → FolderFault → Result (Option Bytes) Fault
none_for place folders.OutOfMemory = Err faults.OutOfMemory
none_for place folders.Device = Err (faults.Device place)
none_for place folders.Missing = Ok None
none_for place folders.Blocked = Ok None
none_for place folders.TooLarge = Ok None
none_for place folders.BadFileName = Ok None

-- the result for a removal: if nothing is there, nothing has to be removed
abbrev pub removed_by : FolderFault → Result (Unit {0}) Unwritten
removed_by folders.OutOfMemory = Err unwritten.OutOfMemory
removed_by folders.Device = Err unwritten.NotWritten
removed_by folders.Missing = Ok tt
removed_by folders.Blocked = Err unwritten.NotWritten
removed_by folders.TooLarge = Err unwritten.NotWritten
removed_by folders.BadFileName = Err unwritten.NotWritten
