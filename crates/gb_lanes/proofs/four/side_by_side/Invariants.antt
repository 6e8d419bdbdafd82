use Rattle.std.proofs.Common.{◌≡◌, ℕ, ◌<◌}
use Rattle.sha2.specs.Sha256.{hash_after, initial_hash_256, padded_message}
use Rattle.gb_lanes.specs.Lanes.{in_lane, lane}
use Rattle.gb_lanes.proofs.four.side_by_side.Given as goal

abbrev pub invariant-taken : goal.invariant-taken
invariant-taken l = (j : ℕ) → j < 4 → lane j l.states ≡ hash_after initial_hash_256
    (padded_message (in_lane l.first.content.now l.second.content.now l.third.content.now l.fourth.content.now j)) l.i
