use Rattle.gb_lanes.proofs.LaneLemmas.{lane_fits}
use Rattle.gb_lanes.proofs.WordLemmas.{ch_by_three}
use Rattle.gb_lanes.proofs.lanes.ch.Goals as goal

pub returns : goal.returns
returns c = λ j low. rw (c.xor-2.ensures j low, c.and.ensures j low, c.xor.ensures j low)
    (ch_by_three _ _ _ (lane_fits c.args.x c.fits-x.0 c.fits-x.1 j low) (lane_fits c.args.z c.fits-z.0 c.fits-z.1 j low))
