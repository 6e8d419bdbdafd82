use Rattle.gb_declare.proofs.GrowLemmas.{part_grows}
use Rattle.gb_declare.proofs.laws.parts_grow.Goals as goal

pub returns : goal.returns
returns c start = part_grows
