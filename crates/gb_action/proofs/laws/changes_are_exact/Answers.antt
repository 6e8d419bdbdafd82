use Rattle.gb_action.proofs.Reported.{reported-is_change, is_change-reported}
use Rattle.gb_action.proofs.laws.changes_are_exact.Goals as goal

pub returns : goal.returns
returns c old new change = (reported-is_change old new change, is_change-reported old new change)
