use Rattle.gb_reason.proofs.Elements.{value_tested}
use Rattle.gb_reason.proofs.differing.is_value.Goals as goal

pub returns : goal.returns
returns c = value_tested c.is_same.result c.args.one.now c.args.other.now c.is_same.ensures
