use Rattle.gb_history.proofs.Places.{separate}
use Rattle.gb_history.proofs.record_place.places_are_distinct.Goals as goal

pub returns : goal.returns
returns c = separate
