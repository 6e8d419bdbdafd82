use Rattle.gb_task.proofs.Truth.{full_runs_are_true as law}
use Rattle.gb_task.proofs.laws.full_runs_are_true.Goals as goal

pub returns : goal.returns
returns c = λ returned. law _ _
