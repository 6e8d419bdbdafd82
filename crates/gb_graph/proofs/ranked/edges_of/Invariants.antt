use Rattle.std.proofs.Common.{◌≡◌, ◌++◌, drop}
use Rattle.gb_graph.specs.Ranked.{edges_from}
use Rattle.gb_graph.proofs.Looked.{numbers_of}
use Rattle.gb_graph.proofs.ranked.edges_of.Given as goal

abbrev pub invariant-loop-task : goal.invariant-loop-task
invariant-loop-task l =
    let numbers = numbers_of l.numbers-inside.entries.entries in
    l.edges.items ++ edges_from numbers l.task (drop l.task l.tasks) ≡ edges_from numbers 0 l.tasks
