use Rattle.std.proofs.Common.{◌≡◌, ◌++◌, string_bytes, take}
use Rattle.std.specs.List.{flat_map}
use Rattle.gb_picture.specs.Outline.{outline_edge}
use Rattle.gb_picture.proofs.outline.push_edges.Given as goal

abbrev pub invariant-loop-other : goal.invariant-loop-other
invariant-loop-other l = string_bytes l.out ≡ string_bytes l.fn.out ++ flat_map (outline_edge l.nodes l.word) (take l.other-index l.others)
