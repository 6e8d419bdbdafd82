use Rattle.gb_task.proofs.Present.{present_is_of_contents}
use Rattle.gb_task.proofs.case_laws.present_is_of_contents.Goals as goal

pub returns : goal.returns
returns c = present_is_of_contents
