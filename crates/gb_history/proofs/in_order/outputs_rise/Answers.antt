use Rattle.std.proofs.Common.{◌∙◌}
use Rattle.gb_history.proofs.Rising.{outputs-is_sorted}
use Rattle.gb_history.proofs.in_order.outputs_rise.Goals as goal

pub returns : goal.returns
returns c = c.ascends.ensures ∙ outputs-is_sorted c.args.outputs.now
