use Rattle.std.proofs.Common.{◌≡◌, ◌++◌, map, take}
use Rattle.serde_json.specs.View.{view}
use Rattle.gb_query.specs.Drawn.{edges_to}
use Rattle.gb_query.proofs.drawn.push_to.Given as goal

abbrev pub invariant-loop-number : goal.invariant-loop-number
invariant-loop-number l = map view l.values.items ≡ map view l.fn.values.items ++ edges_to l.nodes l.sort l.to (take l.number-index l.numbers)
