use Rattle.std.proofs.Common.{◌≡◌, ◌<◌, ◌↔◌, ℕ, true, false, take, vec_len, Contains}
use Rattle.gb_graph.specs.Ranked.{AreDistinct}
use Rattle.gb_graph.specs.Settled.{is_marked}
use Rattle.gb_graph.proofs.ranked.others_of.Given as goal

abbrev pub invariant-loop-number : goal.invariant-loop-number
invariant-loop-number l = record {
  each : vec_len l.exists ≡ l.count;
  reported : (k : ℕ) → (is_marked l.exists.items k ≡ true) ↔ Contains (take l.number-index l.numbers) k;
}

abbrev pub invariant-loop-number-2 : goal.invariant-loop-number-2
invariant-loop-number-2 l = record {
  separate : AreDistinct l.others.items;
  reported : (k : ℕ) → Contains l.others.items k ↔ ((k < l.number) × (is_marked l.exists.items k ≡ false));
}
