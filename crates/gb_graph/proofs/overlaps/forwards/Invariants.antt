use Rattle.std.proofs.Common.{◌≡◌, ◌<◌, ◌≤◌, ◌-◌, ℕ, length, true}
use Rattle.gb_graph.specs.Overlaps.{with_sign}
use Rattle.gb_graph.specs.Places.{is_before, place_at}
use Rattle.gb_graph.proofs.overlaps.forwards.Given as goal

abbrev pub invariant-loop-step : goal.invariant-loop-step
invariant-loop-step l = record {
  positive : 0 < l.step;
  within : l.low ≤ length l.row;
  below : (i : ℕ) → i < l.low → is_before (place_at l.row i) (with_sign l.text l.sign) ≡ true;
}

abbrev pub decreases-loop-step : goal.decreases-loop-step
decreases-loop-step l = length l.row - l.low
