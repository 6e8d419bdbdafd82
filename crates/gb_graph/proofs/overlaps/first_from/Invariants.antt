use Rattle.std.proofs.Common.{◌≡◌, ◌<◌, ◌≤◌, ◌-◌, ℕ, length, true, false}
use Rattle.gb_graph.specs.Overlaps.{with_sign}
use Rattle.gb_graph.specs.Places.{is_before, place_at}
use Rattle.gb_graph.proofs.overlaps.first_from.Given as goal

abbrev pub invariant-loop-low : goal.invariant-loop-low
invariant-loop-low l = record {
  ordered : l.low ≤ l.high;
  within : l.high ≤ length l.row;
  below : (i : ℕ) → i < l.low → is_before (place_at l.row i) (with_sign l.text l.sign) ≡ true;
  above : (i : ℕ) → l.high ≤ i → i < length l.row → is_before (place_at l.row i) (with_sign l.text l.sign) ≡ false;
}

abbrev pub decreases-loop-low : goal.decreases-loop-low
decreases-loop-low l = l.high - l.low
