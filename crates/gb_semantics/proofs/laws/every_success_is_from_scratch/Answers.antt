use Rattle.gb_semantics.proofs.Lemmas.Plain.{every}
use Rattle.gb_semantics.proofs.laws.every_success_is_from_scratch.Goals as goal

pub returns : goal.returns
returns c = λ returned. every _
