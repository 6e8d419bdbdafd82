use Rattle.gb_declare.proofs.KnownLemmas.{realised_in_order}
use Rattle.gb_declare.proofs.laws.realised_in_order.Goals as goal

pub returns : goal.returns
returns c start tables source = realised_in_order tables source
