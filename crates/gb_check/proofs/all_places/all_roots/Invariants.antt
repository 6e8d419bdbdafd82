use Rattle.std.proofs.Common.{◌≡◌, map, take}
use Rattle.std.specs.List.{flat_map}
use Rattle.gb_check.specs.Warnings.{rooted}
use Rattle.gb_check.proofs.all_places.all_roots.Given as goal

abbrev pub invariant-loop-task : goal.invariant-loop-task
invariant-loop-task l = l.roots.items ≡ flat_map (λ task. flat_map (λ property. map (rooted task.path) property.roots) task.files) (take l.task-index l.tasks)
