use Rattle.gb_run.proofs.CutEmptying.{torn_places_are_of_the_emptying as law}
use Rattle.gb_run.proofs.laws.torn_places_are_of_the_emptying.Goals as goal

pub returns : goal.returns
returns c = λ returned. law c.G.Grounds.setting
