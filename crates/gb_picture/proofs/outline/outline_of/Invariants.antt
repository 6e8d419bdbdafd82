use Rattle.std.proofs.Common.{◌≡◌, string_bytes, take}
use Rattle.std.specs.List.{flat_map}
use Rattle.gb_picture.specs.Outline.{outline_node}
use Rattle.gb_picture.proofs.outline.outline_of.Given as goal

abbrev pub invariant-loop-node : goal.invariant-loop-node
invariant-loop-node l = string_bytes l.out ≡ flat_map (outline_node l.nodes) (take l.node-index l.nodes)
