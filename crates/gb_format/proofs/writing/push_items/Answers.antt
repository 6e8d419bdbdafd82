use Rattle.std.proofs.Common.{rules}
use Rattle.gb_format.proofs.SetItems.{set_one}
use Rattle.gb_format.proofs.writing.push_items.Goals as goal

pub items-preserved : goal.items-preserved
items-preserved c = set_one _ _ _ c.items.state c.items.before _ c.args.items.now c.items.at _ c.step-next.result (search rules) c.step-next.ensures c.in_ok-push_item.ensures c.kind_of-before.ensures c.items.invariant
