use Rattle.std.proofs.Common.{◌≡◌, map, take}
use Rattle.gb_graph.specs.Cycle.{path_at}
use Rattle.gb_graph.proofs.cycle.paths_of.Given as goal

abbrev pub invariant-loop-number : goal.invariant-loop-number
invariant-loop-number l = l.paths ≡ map (path_at l.tasks) (take l.number-index l.numbers)
