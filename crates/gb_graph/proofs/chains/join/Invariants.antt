use Rattle.std.proofs.Common.{◌≡◌, ◌<◌, ◌≤◌, ℕ, length, get_or}
use Rattle.std.specs.Int.Bits.{bit_or}
use Rattle.gb_graph.proofs.chains.join.Given as goal

abbrev pub invariant-loop-at : goal.invariant-loop-at
invariant-loop-at l = record {
  fits : length l.other ≤ length l.row;
  joined : (k : ℕ) → k < l.at → get_or l.row k 0 ≡ bit_or (get_or l.initial.row k 0) (get_or l.other k 0);
  rest : (k : ℕ) → l.at ≤ k → get_or l.row k 0 ≡ get_or l.initial.row k 0;
}
