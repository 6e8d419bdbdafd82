use Rattle.gb_records.proofs.Reported.{texts_are_records}
use Rattle.gb_records.proofs.laws.texts_are_records.Goals as goal

pub returns : goal.returns
returns c = texts_are_records
