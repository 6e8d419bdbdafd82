use Rattle.std.proofs.Common.{◌≡◌, ◌++◌, map, take}
use Rattle.serde_json.specs.View.{view}
use Rattle.gb_query.specs.Drawn.{edges_from}
use Rattle.gb_query.proofs.drawn.push_from.Given as goal

abbrev pub invariant-loop-number : goal.invariant-loop-number
invariant-loop-number l = map view l.values.items ≡ map view l.fn.values.items ++ edges_from l.nodes l.from (take l.number-index l.numbers)
