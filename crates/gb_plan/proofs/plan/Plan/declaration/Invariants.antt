use Rattle.std.proofs.Common.{◌≡◌, false, take}
use Rattle.gb_plan.specs.Graph.{is_scheduled_in}
use Rattle.gb_plan.proofs.plan.Plan.declaration.Given as goal

abbrev pub invariant-loop-planned : goal.invariant-loop-planned
invariant-loop-planned l = is_scheduled_in (take l.planned-index l.planned-items) l.path ≡ false
