use Rattle.gb_task.proofs.Grown.{made_is_not_grown}
use Rattle.gb_task.proofs.case_laws.made_is_not_grown.Goals as goal

pub returns : goal.returns
returns c = made_is_not_grown
