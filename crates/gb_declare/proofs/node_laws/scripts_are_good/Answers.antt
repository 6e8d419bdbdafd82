use Rattle.gb_declare.proofs.NodesInTableLemmas.{scripts_are_good}
use Rattle.gb_declare.proofs.node_laws.scripts_are_good.Goals as goal

pub returns : goal.returns
returns c start tables source = scripts_are_good tables source
