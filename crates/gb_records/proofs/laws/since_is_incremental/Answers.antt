use Rattle.gb_records.proofs.Going.{since_is_incremental}
use Rattle.gb_records.proofs.laws.since_is_incremental.Goals as goal

pub returns : goal.returns
returns c = since_is_incremental
