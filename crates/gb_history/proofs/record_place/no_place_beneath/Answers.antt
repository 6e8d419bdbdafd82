use Rattle.gb_history.proofs.Places.{none_beneath}
use Rattle.gb_history.proofs.record_place.no_place_beneath.Goals as goal

pub returns : goal.returns
returns c = none_beneath
