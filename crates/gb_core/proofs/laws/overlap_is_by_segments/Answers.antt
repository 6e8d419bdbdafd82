use Rattle.gb_core.proofs.BySegments.{overlap-to_segments, overlap-from_segments}
use Rattle.gb_core.proofs.laws.overlap_is_by_segments.Goals as goal

pub returns : goal.returns
returns c = λ a b. (overlap-to_segments a b, overlap-from_segments a b)
