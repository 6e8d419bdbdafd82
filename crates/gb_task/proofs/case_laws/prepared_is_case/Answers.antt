use Rattle.gb_task.proofs.Decided.{prepared_is_case}
use Rattle.gb_task.proofs.case_laws.prepared_is_case.Goals as goal

pub returns : goal.returns
returns c = prepared_is_case
