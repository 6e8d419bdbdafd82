use Rattle.gb_semantics.proofs.Lemmas.Plain.{plain}
use Rattle.gb_semantics.proofs.laws.clear_run_is_unconditional.Goals as goal

pub returns : goal.returns
returns c = λ returned. plain _
