use Rattle.gb_declare.proofs.ReadyLemmas.{realised_is_sound}
use Rattle.gb_declare.proofs.laws.realised_is_sound.Goals as goal

pub returns : goal.returns
returns c start tables source = realised_is_sound tables source
