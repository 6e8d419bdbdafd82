use Rattle.gb_declare.proofs.OneCircleLemmas.{reported_one_way}
use Rattle.gb_declare.proofs.laws.troubles_are_reported_one_way.Goals as goal

pub returns : goal.returns
returns c start tables source = reported_one_way tables source
