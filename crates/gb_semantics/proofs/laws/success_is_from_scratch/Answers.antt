use Rattle.gb_semantics.proofs.Lemmas.Whole.{success}
use Rattle.gb_semantics.proofs.laws.success_is_from_scratch.Goals as goal

pub returns : goal.returns
returns c = success
