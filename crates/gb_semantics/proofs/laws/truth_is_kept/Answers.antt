use Rattle.gb_semantics.proofs.Lemmas.Whole.{truth}
use Rattle.gb_semantics.proofs.laws.truth_is_kept.Goals as goal

pub returns : goal.returns
returns c = truth
