use Rattle.gb_task.proofs.CaseExecutions.{idle_executions_are_executions}
use Rattle.gb_task.proofs.case_laws.idle_executions_are_executions.Goals as goal

pub returns : goal.returns
returns c = idle_executions_are_executions
