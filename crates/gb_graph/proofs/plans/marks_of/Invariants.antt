use Rattle.std.proofs.Common.{◌≡◌, ◌↔◌, ℕ, true, take, vec_len, Contains}
use Rattle.gb_graph.specs.Settled.{is_marked}
use Rattle.gb_graph.proofs.plans.marks_of.Given as goal

abbrev pub invariant-loop-number : goal.invariant-loop-number
invariant-loop-number l = record {
  each : vec_len l.marks ≡ l.count;
  reported : (k : ℕ) → (is_marked l.marks.items k ≡ true) ↔ Contains (take l.number-index l.numbers) k;
}
