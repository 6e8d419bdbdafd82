use Rattle.gb_declare.proofs.DistinctLemmas.{circles_are_distinct}
use Rattle.gb_declare.proofs.CircleLemmas.{circles_stay}
use Rattle.gb_declare.proofs.laws.circles_stay.Goals as goal

pub returns-clause-stay : goal.returns-clause-stay
returns-clause-stay c start = circles_stay c.T.Transforms.meanings

pub returns-clause-separate : goal.returns-clause-separate
returns-clause-separate c start = circles_are_distinct c.T.Transforms.meanings
