use Rattle.std.proofs.Common.{◌≡◌, false, take}
use Rattle.std.specs.List.{list_any}
use Rattle.gb_ask_command.specs.Unread.{is_read_by_clause}
use Rattle.gb_ask_command.proofs.unread.is_read_in_block.Given as goal

abbrev pub invariant-loop-clause : goal.invariant-loop-clause
invariant-loop-clause l = list_any (is_read_by_clause l.name) (take l.clause-index l.clauses) ≡ false
