use Rattle.gb_semantics.proofs.Lemmas.Ending.{ended_is_made as law}
use Rattle.gb_semantics.proofs.laws.ended_is_made.Goals as goal

pub returns : goal.returns
returns c = law
