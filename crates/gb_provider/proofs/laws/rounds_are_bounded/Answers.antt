use Rattle.gb_provider.proofs.RoundsLemmas.{none_bounded}
use Rattle.gb_provider.proofs.laws.rounds_are_bounded.Goals as goal

pub returns-clause-values : goal.returns-clause-values
returns-clause-values c rules entry none n = none_bounded rules entry none n

pub returns-clause-producers : goal.returns-clause-producers
returns-clause-producers c rules entry none n = none_bounded rules entry none n
