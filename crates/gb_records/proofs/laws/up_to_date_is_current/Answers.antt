use Rattle.gb_records.proofs.Digests.{up_to_date_is_current}
use Rattle.gb_records.proofs.laws.up_to_date_is_current.Goals as goal

pub returns : goal.returns
returns c = up_to_date_is_current
