use Rattle.std.proofs.Common.{◌≡◌, map, take}
use Rattle.std.specs.List.{flat_map}
use Rattle.serde_json.specs.View.{view}
use Rattle.gb_query.specs.Drawn.{edges_of}
use Rattle.gb_query.proofs.drawn.edges.Given as goal

abbrev pub invariant-loop-node : goal.invariant-loop-node
invariant-loop-node l = map view l.values.items ≡ flat_map (edges_of l.nodes) (take l.node-index l.nodes)
