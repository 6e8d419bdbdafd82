use Rattle.gb_plan.proofs.Same.{plans_are_one}
use Rattle.gb_plan.proofs.laws.plans_are_one.Goals as goal

pub returns : goal.returns
returns c = plans_are_one
