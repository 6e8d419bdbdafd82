use Rattle.gb_semantics.proofs.Lemmas.Plain.{headline as law}
use Rattle.gb_semantics.proofs.laws.headline.Goals as goal

pub returns : goal.returns
returns c = λ returned. law _
