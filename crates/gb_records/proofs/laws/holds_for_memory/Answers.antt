use Rattle.gb_records.proofs.Reported.{holds_for_memory}
use Rattle.gb_records.proofs.laws.holds_for_memory.Goals as goal

pub returns : goal.returns
returns c = holds_for_memory
