use Rattle.gb_semantics.proofs.Lemmas.Pinned.{one}
use Rattle.gb_semantics.proofs.laws.states_are_one.Goals as goal

pub returns : goal.returns
returns c = λ returned. one _
