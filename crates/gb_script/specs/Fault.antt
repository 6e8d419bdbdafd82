-- The numbers under which faults are reported to users.
use Rattle.std.specs.Prelude.{ℕ}
use Rattle.gb_script.specs.declared.fault.ScriptFault.{ScriptFault}
use Rattle.gb_script.specs.declared.fault.ScriptFault.TheVariants.{OutOfMemory, Syntax, TooLong, TooDeep}
use Rattle.gb_script.specs.declared.fault.ScriptFault.TheVariants.{NotUtf8}

abbrev pub script_fault_number : ScriptFault → ℕ
script_fault_number OutOfMemory = 3
script_fault_number (Syntax line) = 20
script_fault_number TooLong = 21
script_fault_number (TooDeep line) = 22
script_fault_number NotUtf8 = 23
