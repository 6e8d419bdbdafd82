use Rattle.std.proofs.Common.{◌≡◌, map, drop}
use Rattle.gb_graph.specs.Places.{with_places}
use Rattle.gb_graph.proofs.places.add_outputs.Given as goal

abbrev pub invariant-loop-output : goal.invariant-loop-output
invariant-loop-output l =
    with_places l.row.items (map (λ place. (l.task, place)) (map (λ output. output.place) (drop l.output-index l.outputs)))
    ≡ with_places l.initial.row.items (map (λ place. (l.task, place)) (map (λ output. output.place) l.outputs))
