use Rattle.std.proofs.Common.{◌≡◌, take}
use Rattle.std.specs.List.{flat_map}
use Rattle.gb_plan.specs.Graph.{declaration_at}
use Rattle.gb_query.specs.Search.{found_at}
use Rattle.gb_query.proofs.at_place.search.Given as goal

abbrev pub invariant-loop-path : goal.invariant-loop-path
invariant-loop-path g l = record {
  kept : g.Ts.Tasks.registry l.tasks ≡ g.Ts.Tasks.registry l.fn.tasks;
  found : l.found.items ≡ flat_map (λ path. found_at l.relation l.place path (declaration_at (g.Ts.Tasks.registry l.fn.tasks) path)) (take l.path-index l.names);
}
