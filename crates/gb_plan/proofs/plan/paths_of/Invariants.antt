use Rattle.std.proofs.Common.{◌≡◌, map, take}
use Rattle.gb_plan.proofs.plan.paths_of.Given as goal

abbrev pub invariant-loop-planned : goal.invariant-loop-planned
invariant-loop-planned l = l.paths.items ≡ map (λ planned. planned.task.path) (take l.planned-index l.tasks)
