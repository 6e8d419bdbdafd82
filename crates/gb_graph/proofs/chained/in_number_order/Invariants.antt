use Rattle.std.proofs.Common.{◌<◌, ◌↔◌, ℕ, Contains}
use Rattle.gb_graph.specs.Order.{rows, InOrder}
use Rattle.gb_graph.proofs.chained.in_number_order.Given as goal

abbrev pub invariant-loop-number : goal.invariant-loop-number
invariant-loop-number l = record {
  order : InOrder (rows l.after) l.numbers.items;
  reported : (k : ℕ) → Contains l.numbers.items k ↔ (k < l.number);
}
