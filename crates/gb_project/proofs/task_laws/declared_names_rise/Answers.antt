use Rattle.gb_project.proofs.RealiseLemmas.{names_rise}
use Rattle.gb_project.proofs.task_laws.declared_names_rise.Goals as goal

pub returns : goal.returns
returns c start tables source = names_rise tables source
