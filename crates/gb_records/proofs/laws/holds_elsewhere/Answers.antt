use Rattle.gb_records.proofs.Reported.{holds_elsewhere}
use Rattle.gb_records.proofs.laws.holds_elsewhere.Goals as goal

pub returns : goal.returns
returns c = holds_elsewhere
