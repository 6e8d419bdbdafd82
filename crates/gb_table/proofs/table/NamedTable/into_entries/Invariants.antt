use Rattle.std.proofs.Common.{◌≡◌, ◌++◌}
use Rattle.gb_table.proofs.table.NamedTable.into_entries.Given as goal

abbrev pub invariant-loop-entry : goal.invariant-loop-entry
invariant-loop-entry g l = l.named.items ++ l.entry-iterator ≡ l.initial.entry-iterator
