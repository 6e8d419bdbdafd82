use Rattle.std.proofs.Common.{◌≡◌, ◌++◌, string_bytes, drop}
use Rattle.gb_picture.specs.Svg.{svg_edges}
use Rattle.gb_picture.specs.Graph.{numbered}
use Rattle.gb_picture.proofs.svg.push_all_edges.Given as goal

abbrev pub invariant-loop-number : goal.invariant-loop-number
invariant-loop-number l =
    string_bytes l.out ++ numbered (svg_edges l.spots) l.number (drop l.number l.nodes) ≡ string_bytes l.fn.out ++ numbered (svg_edges l.spots) 0 l.nodes
