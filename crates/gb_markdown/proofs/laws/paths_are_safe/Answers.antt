use Rattle.gb_markdown.proofs.Safety.{path_is_safe}
use Rattle.gb_markdown.proofs.laws.paths_are_safe.Goals as goal

pub returns : goal.returns
returns c path = path_is_safe path
