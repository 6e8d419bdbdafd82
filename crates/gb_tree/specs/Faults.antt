-- The numbers under which the faults of patterns and trees are reported to users.
use Rattle.std.specs.Prelude.{ℕ}
use Rattle.gb_tree.specs.declared.pattern.PatternFault.{PatternFault}
use Rattle.gb_tree.specs.declared.pattern.PatternFault.TheVariants.{OutOfMemory, BadPattern}
use Rattle.gb_tree.specs.declared.fault.TreeFault.{TreeFault}
use Rattle.gb_tree.specs.declared.fault.TreeFault.TheVariants as trees

abbrev pub pattern_fault_number : PatternFault → ℕ
pattern_fault_number OutOfMemory = 3
pattern_fault_number BadPattern = 70

abbrev pub tree_fault_number : TreeFault → ℕ
tree_fault_number trees.OutOfMemory = 3
tree_fault_number (trees.Device place) = 10
tree_fault_number (trees.Missing place) = 11
tree_fault_number (trees.Blocked place) = 12
tree_fault_number (trees.TooLarge place) = 13
tree_fault_number (trees.BadFileName place) = 14
tree_fault_number (trees.DuplicateInput name path) = 71
tree_fault_number (trees.TooManyFiles name) = 72
