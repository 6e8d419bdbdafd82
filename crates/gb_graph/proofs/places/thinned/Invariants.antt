use Rattle.std.specs.Vec.Iter.{into_iter_items}
use Rattle.gb_graph.proofs.Thinned.{IsSoFar}
use Rattle.gb_graph.proofs.places.thinned.Given as goal

abbrev pub invariant-loop-at : goal.invariant-loop-at
invariant-loop-at l = IsSoFar l.fn.row.items l.thinned.items (into_iter_items l.at-iterator)
