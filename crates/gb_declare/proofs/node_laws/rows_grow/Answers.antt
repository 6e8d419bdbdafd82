use Rattle.gb_declare.proofs.GrownLemmas.{rows_grow_so}
use Rattle.gb_declare.proofs.node_laws.rows_grow.Goals as goal

pub returns : goal.returns
returns c start tables source all whole = rows_grow_so tables source all whole
