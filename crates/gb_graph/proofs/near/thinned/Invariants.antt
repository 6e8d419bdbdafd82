use Rattle.std.proofs.Common.{take}
use Rattle.gb_graph.specs.Near.{AreThinned}
use Rattle.gb_graph.proofs.near.thinned.Given as goal

abbrev pub invariant-loop-near : goal.invariant-loop-near
invariant-loop-near l = AreThinned (take l.near-index l.row) l.thinned.items
