use Rattle.std.proofs.Common.{refl, sym}
use Rattle.gb_lanes.specs.Lanes.{lane, window_lane}
use Rattle.gb_lanes.proofs.LaneLemmas.{slice_index-window}
use Rattle.sha2.proofs.Schedule256.{rounds_first}
use Rattle.gb_lanes.proofs.rounds.first_step.Goals as goal

pub returns : goal.returns
returns c = λ b h j low window held.
    rounds_first b h (window_lane j c.args.w.now) (lane j c.args.v) c.args.t _ _ _ c.requires window held refl
    (sym (slice_index-window j c.args.w.now c.args.t)) (c.round.ensures j low)
