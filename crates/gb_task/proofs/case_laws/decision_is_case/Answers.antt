use Rattle.gb_task.proofs.Decided.{decision_is_case}
use Rattle.gb_task.proofs.case_laws.decision_is_case.Goals as goal

pub returns : goal.returns
returns c = decision_is_case
