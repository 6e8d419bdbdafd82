use Rattle.std.proofs.Common.{◌≡◌, false, take}
use Rattle.std.specs.List.{list_any}
use Rattle.gb_ask_command.specs.Unread.{is_read_by}
use Rattle.gb_ask_command.proofs.unread.is_read_by_any.Given as goal

abbrev pub invariant-loop-statement : goal.invariant-loop-statement
invariant-loop-statement l = list_any (is_read_by l.name) (take l.statement-index l.statements) ≡ false
