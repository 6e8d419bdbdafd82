use Rattle.std.proofs.Common.{◌≡◌, ◌++◌, string_bytes, drop}
use Rattle.gb_picture.specs.Svg.{svg_node}
use Rattle.gb_picture.specs.Graph.{numbered}
use Rattle.gb_picture.proofs.svg.push_boxes.Given as goal

abbrev pub invariant-loop-number : goal.invariant-loop-number
invariant-loop-number l =
    string_bytes l.out ++ numbered (svg_node l.width l.spots) l.number (drop l.number l.nodes) ≡ string_bytes l.fn.out ++ numbered (svg_node l.width l.spots) 0 l.nodes
