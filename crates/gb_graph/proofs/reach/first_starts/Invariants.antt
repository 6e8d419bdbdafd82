use Rattle.std.proofs.Common.{◌≡◌, length, vec_len}
use Rattle.gb_graph.specs.Order.{rows}
use Rattle.gb_graph.proofs.Reached.{AreFirst}
use Rattle.gb_graph.proofs.reach.first_starts.Given as goal

abbrev pub invariant-loop-word : goal.invariant-loop-word
invariant-loop-word l = record {
  marks : vec_len l.exists ≡ length l.table;
  each : vec_len l.words ≡ length l.table;
  first : AreFirst (rows l.table) (rows l.starts) l.word l.exists.items l.words.items;
}
