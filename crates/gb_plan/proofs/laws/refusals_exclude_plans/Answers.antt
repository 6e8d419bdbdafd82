use Rattle.gb_plan.proofs.Refused.{refusals_exclude_plans}
use Rattle.gb_plan.proofs.laws.refusals_exclude_plans.Goals as goal

pub returns : goal.returns
returns c = refusals_exclude_plans
