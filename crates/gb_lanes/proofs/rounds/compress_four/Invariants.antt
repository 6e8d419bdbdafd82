use Rattle.std.proofs.Common.{ℕ, ◌<◌, ◌*◌}
use Rattle.sha2.specs.Sha256.{IsRoundsAt}
use Rattle.gb_lanes.specs.Lanes.{in_lane, lane, window_lane}
use Rattle.gb_lanes.proofs.rounds.compress_four.Given as goal

abbrev pub invariant-schedule : goal.invariant-schedule
invariant-schedule l = (j : ℕ) → j < 4
    → IsRoundsAt (in_lane l.first l.second l.third l.fourth j) (lane j l.state) (window_lane j l.w) (lane j l.v) (16 * l.turn)
