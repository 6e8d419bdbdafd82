use Rattle.gb_provider.proofs.RoundsLemmas.{later_extends}
use Rattle.gb_provider.proofs.laws.answers_stay.Goals as goal

pub returns-clause-values : goal.returns-clause-values
returns-clause-values c rules m n entry a less reached = (later_extends rules n m less).keeps entry a reached

pub returns-clause-producers : goal.returns-clause-producers
returns-clause-producers c rules m n entry a less reached = (later_extends rules n m less).keeps entry a reached
