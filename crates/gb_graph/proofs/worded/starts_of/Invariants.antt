use Rattle.std.proofs.Common.{◌≡◌, map, take}
use Rattle.gb_graph.specs.Order.{rows}
use Rattle.gb_graph.specs.Ranked.{numbers_in}
use Rattle.gb_graph.proofs.worded.starts_of.Given as goal

abbrev pub invariant-loop-paths : goal.invariant-loop-paths
invariant-loop-paths l = rows l.starts.items ≡ map (numbers_in l.numbers) (take l.paths-index l.lists)
