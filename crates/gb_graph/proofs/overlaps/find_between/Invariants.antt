use Rattle.std.proofs.Common.{◌≡◌, ◌<◌, ◌≤◌, ◌↔◌, ◌⊎◌, ℕ, Contains}
use Rattle.gb_graph.proofs.overlaps.find_between.Given as goal

abbrev pub invariant-loop-index : goal.invariant-loop-index
invariant-loop-index l = record {
  bounded : (l.index ≡ l.first) ⊎ (l.index ≤ l.end);
  reported : (k : ℕ) → Contains l.found.items k ↔ (Contains l.initial.found.items k ⊎ ((l.first ≤ k) × (k < l.index)));
}
