use Rattle.gb_reason.proofs.Whole.{each_is_real}
use Rattle.gb_reason.proofs.laws.each_is_real.Goals as goal

pub returns : goal.returns
returns c = each_is_real
