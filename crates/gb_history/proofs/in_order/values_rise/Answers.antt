use Rattle.std.proofs.Common.{◌∙◌}
use Rattle.gb_history.proofs.Rising.{ascends-is_sorted}
use Rattle.gb_history.proofs.in_order.values_rise.Goals as goal

pub returns : goal.returns
returns c = c.ascends.ensures ∙ ascends-is_sorted c.args.values.now
