use Rattle.std.proofs.Common.{◌≡◌, ℕ, ◌<◌, length, ◌*◌}
use Rattle.sha2.specs.Sha256.{word_at}
use Rattle.gb_lanes.specs.Lanes.{in_lane, lane_at}
use Rattle.gb_lanes.proofs.rounds.load_blocks.Given as goal

abbrev pub invariant-load : goal.invariant-load
invariant-load l = (length l.w ≡ 16) × ((j k : ℕ) → j < 4 → k < l.i
    → lane_at l.w k j ≡ word_at (in_lane l.first l.second l.third l.fourth j) (4 * k))
