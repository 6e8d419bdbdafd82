use Rattle.std.proofs.Common.{◌≡◌, ◌++◌, drop, string_bytes}
use Rattle.gb_picture.specs.Dot.{dot_node}
use Rattle.gb_picture.specs.Graph.{numbered}
use Rattle.gb_picture.proofs.dot.push_nodes.Given as goal

abbrev pub invariant-loop-number : goal.invariant-loop-number
invariant-loop-number l =
    string_bytes l.out ++ numbered dot_node l.number (drop l.number l.nodes) ≡ string_bytes l.fn.out ++ numbered dot_node 0 l.nodes
