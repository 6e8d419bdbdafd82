use Rattle.gb_task.proofs.Truth.{up_to_date_is_made as law}
use Rattle.gb_task.proofs.laws.up_to_date_is_made.Goals as goal

pub returns : goal.returns
returns c = λ returned. law _
