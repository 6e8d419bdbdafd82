use Rattle.std.proofs.Common.{◌≡◌, take}
use Rattle.std.specs.List.{flat_map}
use Rattle.gb_plan.specs.Task.{output_places}
use Rattle.gb_check.proofs.all_places.all_outputs.Given as goal

abbrev pub invariant-loop-task : goal.invariant-loop-task
invariant-loop-task l = l.outputs.items ≡ flat_map output_places (take l.task-index l.tasks)
