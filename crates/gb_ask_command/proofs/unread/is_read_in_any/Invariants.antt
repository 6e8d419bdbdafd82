use Rattle.std.proofs.Common.{◌≡◌, false, take}
use Rattle.std.specs.List.{list_any}
use Rattle.gb_ask_command.specs.Unread.{is_read_in}
use Rattle.gb_ask_command.proofs.unread.is_read_in_any.Given as goal

abbrev pub invariant-loop-tree : goal.invariant-loop-tree
invariant-loop-tree l = list_any (is_read_in l.name) (take l.tree-index l.trees) ≡ false
