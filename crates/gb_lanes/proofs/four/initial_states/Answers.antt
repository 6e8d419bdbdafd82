use Rattle.std.proofs.Common.{refl}
use Rattle.gb_lanes.proofs.LaneLemmas.{below_four}
use Rattle.gb_lanes.proofs.four.initial_states.Goals as goal

pub returns : goal.returns
returns c = below_four _ refl refl refl refl
