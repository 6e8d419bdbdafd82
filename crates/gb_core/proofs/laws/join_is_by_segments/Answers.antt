use Rattle.gb_core.proofs.BySegments.{segments-joined}
use Rattle.gb_core.proofs.laws.join_is_by_segments.Goals as goal

pub returns : goal.returns
returns c = segments-joined
