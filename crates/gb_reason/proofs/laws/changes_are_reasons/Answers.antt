use Rattle.gb_reason.proofs.Since.{changes_are_reasons}
use Rattle.gb_reason.proofs.laws.changes_are_reasons.Goals as goal

pub returns : goal.returns
returns c = changes_are_reasons
