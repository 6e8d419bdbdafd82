use Rattle.gb_task.proofs.Truth.{runs_by_changes_stay_true as law}
use Rattle.gb_task.proofs.laws.runs_by_changes_stay_true.Goals as goal

pub returns : goal.returns
returns c = λ returned. law _ _
