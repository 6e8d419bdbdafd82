use Rattle.std.proofs.Common.{slice_index}
use Rattle.gb_lanes.proofs.WordLemmas.{maj_by_four}
use Rattle.gb_lanes.proofs.lanes.maj.Goals as goal

pub returns : goal.returns
returns c = λ j low. rw (c.xor-3.ensures j low, c.and.ensures j low, c.xor-2.ensures j low, c.xor.ensures j low)
    (maj_by_four (slice_index c.args.x j) (slice_index c.args.y j) (slice_index c.args.z j))
