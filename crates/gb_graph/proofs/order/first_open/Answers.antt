use Rattle.std.proofs.Common.{arith}
use Rattle.std.proofs.lemmas.List.Elements.{Contains-get_or}
use Rattle.gb_graph.proofs.order.first_open.Goals as goal

pub bounds-exists-before : goal.bounds-exists-before
bounds-exists-before c = c.requires.known _ (Contains-get_or c.args.row.now c.loop-before.before-index 0 (omega arith))
