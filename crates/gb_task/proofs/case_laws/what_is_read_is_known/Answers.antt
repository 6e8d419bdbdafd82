use Rattle.gb_task.proofs.Knowing.{what_is_read_is_known}
use Rattle.gb_task.proofs.case_laws.what_is_read_is_known.Goals as goal

pub returns : goal.returns
returns c = what_is_read_is_known
