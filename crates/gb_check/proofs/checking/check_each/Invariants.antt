use Rattle.std.proofs.Common.{◌≡◌, take}
use Rattle.std.specs.List.{flat_map}
use Rattle.gb_check.specs.Found.{task_found}
use Rattle.gb_check.proofs.checking.check_each.Given as goal

abbrev pub invariant-loop-path : goal.invariant-loop-path
invariant-loop-path g l = record {
  kept : g.Ts.Tasks.registry l.tasks ≡ g.Ts.Tasks.registry l.fn.tasks;
  found : l.found.items ≡ flat_map (task_found l.sites l.marks (g.Ts.Tasks.registry l.fn.tasks)) (take l.path-index l.names);
}
