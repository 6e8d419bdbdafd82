use Rattle.gb_lanes.proofs.LaneLemmas.{shifts_rotate}
use Rattle.gb_lanes.proofs.lanes.rotate.Goals as goal

pub returns : goal.returns
returns c = shifts_rotate c.args.k c.requires.0 c.requires.1 c.args.a c.fits-a.0
