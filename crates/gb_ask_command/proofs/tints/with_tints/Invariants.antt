use Rattle.std.proofs.Common.{◌≡◌, ◌++◌}
use Rattle.std.specs.Vec.Iter.{into_iter_items}
use Rattle.gb_ask_command.specs.Tints.{with_tints}
use Rattle.gb_ask_command.proofs.tints.with_tints.Given as goal

abbrev pub invariant-loop-node : goal.invariant-loop-node
invariant-loop-node l = with_tints l.fn.nodes.items l.predicted ≡ l.made.items ++ with_tints (into_iter_items l.node-iterator) l.rest
