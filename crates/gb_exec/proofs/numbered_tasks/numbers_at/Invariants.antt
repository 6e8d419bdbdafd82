use Rattle.std.proofs.Common.{◌≡◌, ◌++◌}
use Rattle.gb_graph.specs.Ranked.{numbers_in}
use Rattle.gb_exec.proofs.numbered_tasks.numbers_at.Given as goal

abbrev pub invariant-loop-path : goal.invariant-loop-path
invariant-loop-path l = l.found.items ++ numbers_in l.numbers l.path-iterator ≡ numbers_in l.numbers l.paths
