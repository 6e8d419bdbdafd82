use Rattle.std.proofs.Common.{◌≡◌, ◌++◌, take}
use Rattle.std.specs.List.{flat_map}
use Rattle.gb_check.specs.Warnings.{pairs_in}
use Rattle.gb_check.proofs.common_roots.push_shared.Given as goal

abbrev pub invariant-loop-task : goal.invariant-loop-task
invariant-loop-task l = l.found.items ≡ l.fn.found.items ++ flat_map (λ task. pairs_in l.sites task.path task.files) (take l.task-index l.tasks)
