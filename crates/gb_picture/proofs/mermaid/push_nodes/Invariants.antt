use Rattle.std.proofs.Common.{◌≡◌, ◌++◌, drop, string_bytes}
use Rattle.gb_picture.specs.Mermaid.{mermaid_node}
use Rattle.gb_picture.specs.Graph.{numbered}
use Rattle.gb_picture.proofs.mermaid.push_nodes.Given as goal

abbrev pub invariant-loop-number : goal.invariant-loop-number
invariant-loop-number l =
    string_bytes l.out ++ numbered mermaid_node l.number (drop l.number l.nodes) ≡ string_bytes l.fn.out ++ numbered mermaid_node 0 l.nodes
