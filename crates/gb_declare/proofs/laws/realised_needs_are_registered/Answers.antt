use Rattle.gb_declare.proofs.NeededLemmas.{realised_needs_are_registered}
use Rattle.gb_declare.proofs.laws.realised_needs_are_registered.Goals as goal

pub returns : goal.returns
returns c start tables source = realised_needs_are_registered tables source
