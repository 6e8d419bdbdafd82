use Rattle.gb_project.proofs.ScriptTaskLemmas.{tasks_are_good}
use Rattle.gb_project.proofs.workspace_laws.tasks_are_good.Goals as goal

pub returns : goal.returns
returns c start tables source = tasks_are_good tables source
