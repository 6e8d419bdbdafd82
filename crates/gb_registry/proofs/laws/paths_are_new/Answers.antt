use Rattle.gb_registry.proofs.OnceLemmas.{paths_are_new}
use Rattle.gb_registry.proofs.laws.paths_are_new.Goals as goal

pub returns : goal.returns
returns c start tables source = paths_are_new tables source
