use Rattle.std.proofs.Common.{◌≡◌, [], drop}
use Rattle.gb_plan.specs.Task.{output_places}
use Rattle.gb_graph.specs.Places.{places_from, with_places}
use Rattle.gb_graph.proofs.places.outputs_of.Given as goal

abbrev pub invariant-loop-task : goal.invariant-loop-task
invariant-loop-task l =
    with_places l.row.items (places_from output_places l.task (drop l.task l.tasks)) ≡ with_places [] (places_from output_places 0 l.tasks)
