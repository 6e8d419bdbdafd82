use Rattle.gb_semantics.proofs.Lemmas.Agreeing.{some_agree as law}
use Rattle.gb_semantics.proofs.laws.some_kinds_agree.Goals as goal

pub returns : goal.returns
returns c = λ returned. law _
