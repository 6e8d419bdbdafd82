use Rattle.gb_task.proofs.CaseExecutions.{runs_are_of_case}
use Rattle.gb_task.proofs.case_laws.runs_are_of_case.Goals as goal

pub returns : goal.returns
returns c = runs_are_of_case
