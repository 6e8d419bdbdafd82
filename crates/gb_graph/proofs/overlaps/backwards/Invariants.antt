use Rattle.std.proofs.Common.{◌≡◌, ◌<◌, ◌≤◌, ℕ, length, false}
use Rattle.gb_graph.specs.Overlaps.{with_sign}
use Rattle.gb_graph.specs.Places.{is_before, place_at}
use Rattle.gb_graph.proofs.overlaps.backwards.Given as goal

abbrev pub invariant-loop-step : goal.invariant-loop-step
invariant-loop-step l = record {
  positive : 0 < l.step;
  within : l.high ≤ length l.row;
  above : (i : ℕ) → l.high ≤ i → i < length l.row → is_before (place_at l.row i) (with_sign l.text l.sign) ≡ false;
}

abbrev pub decreases-loop-step : goal.decreases-loop-step
decreases-loop-step l = l.high
