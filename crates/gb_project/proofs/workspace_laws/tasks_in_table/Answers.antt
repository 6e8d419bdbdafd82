use Rattle.gb_project.proofs.ScriptTaskLemmas.{tasks_in_table}
use Rattle.gb_project.proofs.workspace_laws.tasks_in_table.Goals as goal

pub returns : goal.returns
returns c start tables source = tasks_in_table tables source
