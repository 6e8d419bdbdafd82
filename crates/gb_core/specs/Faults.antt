-- The fault numbers that are reported to users.
use Rattle.std.specs.Prelude.{ℕ}
use Rattle.gb_core.specs.declared.name.NameFault.{NameFault}
use Rattle.gb_core.specs.declared.name.NameFault.TheVariants as names
use Rattle.gb_core.specs.declared.place.PlaceFault.{PlaceFault}
use Rattle.gb_core.specs.declared.place.PlaceFault.TheVariants as places

abbrev pub name_fault_number : NameFault → ℕ
name_fault_number names.BadName = 1
name_fault_number names.OutOfMemory = 3

abbrev pub place_fault_number : PlaceFault → ℕ
place_fault_number places.BadPlace = 2
place_fault_number places.OutOfMemory = 3
