use Rattle.gb_declare.proofs.RisingLemmas.{realised_names_rise}
use Rattle.gb_declare.proofs.laws.realised_names_rise.Goals as goal

pub returns : goal.returns
returns c start tables source = realised_names_rise tables source
