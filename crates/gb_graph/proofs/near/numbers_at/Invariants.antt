use Rattle.std.proofs.Common.{◌↔◌, take, Contains}
use Rattle.gb_graph.specs.declared.near.Near.{Near}
use Rattle.gb_graph.specs.Near.{IsAmong}
use Rattle.gb_graph.proofs.near.numbers_at.Given as goal

abbrev pub invariant-loop-index : goal.invariant-loop-index
invariant-loop-index l = (near : Near) → Contains l.row.items near ↔ IsAmong l.outputs (take l.index-index l.indices) near
