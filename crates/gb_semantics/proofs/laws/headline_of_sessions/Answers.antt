use Rattle.gb_semantics.proofs.Lemmas.Sessions.{sessions as law}
use Rattle.gb_semantics.proofs.laws.headline_of_sessions.Goals as goal

pub returns : goal.returns
returns c = λ returned. law _ _ _
