use Rattle.gb_declare.proofs.CarrierLemmas.{part_produces}
use Rattle.gb_declare.proofs.NeedLemmas.{given_has_tasks}
use Rattle.gb_declare.proofs.laws.values_have_tasks.Goals as goal

pub returns-clause-given : goal.returns-clause-given
returns-clause-given c start = given_has_tasks c.T.Transforms.meanings

pub returns-clause-produces : goal.returns-clause-produces
returns-clause-produces c start = part_produces c.T.Transforms.meanings
