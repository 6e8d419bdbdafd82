use Rattle.gb_core.proofs.Parts.{parts_make}
use Rattle.gb_core.proofs.laws.parts_make_task_paths.Goals as goal

pub returns : goal.returns
returns c = parts_make
