use Rattle.std.proofs.Common.{◌≡◌, map, take}
use Rattle.serde_json.specs.View.{view}
use Rattle.gb_query.specs.Listing.{task_object}
use Rattle.gb_query.proofs.listing_objects.task_objects.Given as goal

abbrev pub invariant-loop-path : goal.invariant-loop-path
invariant-loop-path g l = record {
  kept : g.Ts.Tasks.registry l.tasks ≡ g.Ts.Tasks.registry l.fn.tasks;
  values : map view l.values.items ≡ map (task_object (g.Ts.Tasks.registry l.fn.tasks)) (take l.path-index l.names);
}
