use Rattle.std.proofs.Common.{◌≡◌, map, drop}
use Rattle.std.specs.List.{flat_map}
use Rattle.gb_graph.specs.Places.{with_places}
use Rattle.gb_graph.proofs.places.add_files.Given as goal

abbrev pub invariant-loop-property : goal.invariant-loop-property
invariant-loop-property l =
    with_places l.row.items (map (λ root. (l.task, root)) (flat_map (λ property. property.roots) (drop l.property-index l.files)))
    ≡ with_places l.initial.row.items (map (λ root. (l.task, root)) (flat_map (λ property. property.roots) l.files))
