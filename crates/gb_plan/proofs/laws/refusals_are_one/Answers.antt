use Rattle.gb_plan.proofs.Once.{refusals_are_one}
use Rattle.gb_plan.proofs.laws.refusals_are_one.Goals as goal

pub returns : goal.returns
returns c = refusals_are_one
