use Rattle.gb_graph.proofs.Bits.{marked_same, marked_other}
use Rattle.gb_graph.proofs.chains.mark.Goals as goal

pub returns-clause-same : goal.returns-clause-same
returns-clause-same c = marked_same c.args.row.now c.args.task c.requires

pub returns-clause-other : goal.returns-clause-other
returns-clause-other c = λ i n. marked_other c.args.row.now c.args.task i c.requires n
