use Rattle.std.proofs.Common.{◌≡◌, ◌++◌}
use Rattle.gb_graph.specs.Ranked.{numbers_in}
use Rattle.gb_graph.proofs.worded.add_numbers.Given as goal

abbrev pub invariant-loop-path : goal.invariant-loop-path
invariant-loop-path l = l.row.items ++ numbers_in l.numbers l.path-iterator ≡ l.initial.row.items ++ numbers_in l.numbers l.paths
