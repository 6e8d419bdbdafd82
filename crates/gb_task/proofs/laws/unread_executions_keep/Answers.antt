use Rattle.gb_task.proofs.ByOutcome.{unread_executions_keep as law}
use Rattle.gb_task.proofs.laws.unread_executions_keep.Goals as goal

pub returns : goal.returns
returns c = λ returned. law _ _
