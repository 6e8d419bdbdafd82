use Rattle.gb_lanes.proofs.LaneLemmas.{shifts_divide}
use Rattle.gb_lanes.proofs.lanes.shift.Goals as goal

pub returns : goal.returns
returns c = shifts_divide c.args.k c.requires c.args.a c.fits-a.0
