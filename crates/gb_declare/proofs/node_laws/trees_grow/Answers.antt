use Rattle.gb_declare.proofs.GrownLemmas.{trees_grow_so}
use Rattle.gb_declare.proofs.node_laws.trees_grow.Goals as goal

pub returns : goal.returns
returns c start tables source all whole = trees_grow_so tables source all whole
