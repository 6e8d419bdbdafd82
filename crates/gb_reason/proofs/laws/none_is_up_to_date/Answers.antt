use Rattle.gb_reason.proofs.Whole.{none_is_up_to_date}
use Rattle.gb_reason.proofs.laws.none_is_up_to_date.Goals as goal

pub returns : goal.returns
returns c = none_is_up_to_date
