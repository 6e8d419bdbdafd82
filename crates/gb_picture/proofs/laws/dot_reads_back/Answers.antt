use Rattle.gb_picture.proofs.Escaped.{dot_back}
use Rattle.gb_picture.proofs.laws.dot_reads_back.Goals as goal

pub returns : goal.returns
returns c = dot_back
