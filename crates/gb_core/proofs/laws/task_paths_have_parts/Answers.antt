use Rattle.gb_core.proofs.Parts.{has_parts}
use Rattle.gb_core.proofs.laws.task_paths_have_parts.Goals as goal

pub returns : goal.returns
returns c = has_parts
