use Rattle.gb_declare.proofs.NodesInTableLemmas.{scripts_in_table}
use Rattle.gb_declare.proofs.node_laws.scripts_in_table.Goals as goal

pub returns : goal.returns
returns c start tables source = scripts_in_table tables source
