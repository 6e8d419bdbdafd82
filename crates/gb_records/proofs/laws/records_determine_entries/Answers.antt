use Rattle.gb_records.proofs.Digests.{records_determine_entries}
use Rattle.gb_records.proofs.laws.records_determine_entries.Goals as goal

pub returns : goal.returns
returns c = records_determine_entries
