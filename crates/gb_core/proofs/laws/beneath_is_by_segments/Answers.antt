use Rattle.gb_core.proofs.BySegments.{beneath-to_segments, beneath-from_segments}
use Rattle.gb_core.proofs.laws.beneath_is_by_segments.Goals as goal

pub returns : goal.returns
returns c = λ place folder. (beneath-to_segments place folder, beneath-from_segments place folder)
