use Rattle.gb_run.proofs.Failing.{torn_places_are_of_the_run as law}
use Rattle.gb_run.proofs.laws.torn_places_are_of_the_run.Goals as goal

pub returns : goal.returns
returns c = λ returned. law _
