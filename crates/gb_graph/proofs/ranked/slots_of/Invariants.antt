use Rattle.std.proofs.Common.{◌≡◌, ◌++◌, Some, map}
use Rattle.std.specs.Vec.Iter.{into_iter_items}
use Rattle.gb_graph.proofs.ranked.slots_of.Given as goal

abbrev pub invariant-loop-planned : goal.invariant-loop-planned
invariant-loop-planned l = l.slots.items ++ map Some (into_iter_items l.planned-iterator) ≡ map Some l.fn.tasks.items
