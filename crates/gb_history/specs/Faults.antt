-- The numbers of the faults of records.
use Rattle.std.specs.Prelude.{ℕ}
use Rattle.gb_history.specs.declared.fault.RecordFault.{RecordFault}
use Rattle.gb_history.specs.declared.fault.RecordFault.TheVariants as faults

abbrev pub record_fault_number : RecordFault → ℕ
record_fault_number faults.OutOfMemory = 3
record_fault_number faults.NotARecord = 80
