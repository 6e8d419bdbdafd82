use Rattle.gb_records.proofs.Going.{changes_are_of_contents}
use Rattle.gb_records.proofs.laws.changes_are_of_contents.Goals as goal

pub returns : goal.returns
returns c = changes_are_of_contents
