use Rattle.gb_declare.proofs.KnownLemmas.{realised_names_tasks}
use Rattle.gb_declare.proofs.laws.realised_names_tasks.Goals as goal

pub returns : goal.returns
returns c start tables source = realised_names_tasks tables source
