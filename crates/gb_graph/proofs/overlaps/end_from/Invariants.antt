use Rattle.std.proofs.Common.{◌≡◌, ◌++◌, ◌∷◌, [], ◌<◌, ◌≤◌, ℕ, length, true}
use Rattle.gb_graph.specs.Places.{is_before, place_at}
use Rattle.gb_graph.proofs.overlaps.end_from.Given as goal

abbrev pub invariant-loop-end : goal.invariant-loop-end
invariant-loop-end l = record {
  within : l.end ≤ length l.row;
  below : (i : ℕ) → l.first ≤ i → i < l.end → is_before (place_at l.row i) (l.text ++ l.sign ∷ []) ≡ true;
}
