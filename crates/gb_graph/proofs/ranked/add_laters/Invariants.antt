use Rattle.std.proofs.Common.{◌≡◌, ◌++◌, map}
use Rattle.gb_graph.specs.Ranked.{numbers_in}
use Rattle.gb_graph.proofs.ranked.add_laters.Given as goal

abbrev pub invariant-loop-path : goal.invariant-loop-path
invariant-loop-path l =
    l.edges.items ++ map (λ later. (later, l.task)) (numbers_in l.numbers l.path-iterator)
    ≡ l.initial.edges.items ++ map (λ later. (later, l.task)) (numbers_in l.numbers l.paths)
