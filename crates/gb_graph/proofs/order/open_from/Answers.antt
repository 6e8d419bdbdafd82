use Rattle.std.proofs.Common.{arith}
use Rattle.std.proofs.lemmas.List.Elements.{Contains-get_or}
use Rattle.gb_graph.proofs.order.open_from.Goals as goal

pub bounds-exists-row : goal.bounds-exists-row
bounds-exists-row c = c.requires.known _ (Contains-get_or c.args.row.now c.loop-at.at 0 (omega arith))
