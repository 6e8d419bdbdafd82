use Rattle.std.proofs.Common.{◌≡◌, map, drop}
use Rattle.gb_graph.specs.Places.{with_places}
use Rattle.gb_graph.proofs.places.add_roots.Given as goal

abbrev pub invariant-loop-root : goal.invariant-loop-root
invariant-loop-root l =
    with_places l.row.items (map (λ root. (l.task, root)) (drop l.root-index l.roots))
    ≡ with_places l.initial.row.items (map (λ root. (l.task, root)) l.roots)
