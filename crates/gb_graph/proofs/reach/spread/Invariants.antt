use Rattle.std.proofs.Common.{◌≡◌, ◌+◌, length, vec_len}
use Rattle.gb_graph.specs.Order.{rows}
use Rattle.gb_graph.specs.Reach.{Spreads}
use Rattle.gb_graph.specs.Settled.{missing}
use Rattle.gb_graph.proofs.reach.spread.Given as goal

abbrev pub invariant-loop-task : goal.invariant-loop-task
invariant-loop-task l = record {
  marks : length l.exists ≡ length l.table;
  each : length l.words ≡ length l.table;
  spreads : Spreads (rows l.table) l.starts l.word l.fn.exists l.exists l.fn.words l.words l.fresh.items;
}

abbrev pub decreases-loop-task : goal.decreases-loop-task
decreases-loop-task l = missing l.exists + vec_len l.fresh
