use Rattle.std.proofs.Common.{◌≡◌, ◌++◌}
use Rattle.gb_graph.specs.Ranked.{numbers_in}
use Rattle.gb_ask_command.proofs.nodes.numbers_in.Given as goal

abbrev pub invariant-loop-path : goal.invariant-loop-path
invariant-loop-path l = l.found.items ++ numbers_in l.numbers l.path-iterator ≡ numbers_in l.numbers l.paths
