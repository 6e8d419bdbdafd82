use Rattle.std.proofs.Common.{◌≡◌, Some, ap, ◌∙◌, arith}
use Rattle.serde_json.specs.Data.{string}
use Rattle.serde_json.specs.Find.{as_str}
use Rattle.serde_json.specs.View.{view}
use Rattle.gb_history.proofs.Lists.{next, all_true, read_one_more}
use Rattle.gb_history.proofs.from_json.texts_from.Goals as goal

pub loop-item-preserved : goal.loop-item-preserved
loop-item-preserved c ts e =
    let n = next view string _ c.args.items.now ts c.loop-item.item-index c.item-item.result e (all_true ts) (omega arith) in
    let said : as_str (view c.item-item.result) ≡ Some n.value = ap (λ j. as_str (view j)) c.item-item.is ∙ ap as_str n.is in
    rw c.in_ok-push.ensures.ok (read_one_more _ ts _ _ n.value (c.loop-item.invariant ts e) (cc (said, c.in_ok-from_str.ensures, c.in-Some.ensures)) n.more)

pub returns-in_default : goal.returns-in_default
returns-in_default c ts e =
    let n = next view string _ c.args.items.now ts c.loop-item.item-index c.item-item.result e (all_true ts) (omega arith) in
    let said : as_str (view c.item-item.result) ≡ Some n.value = ap (λ j. as_str (view j)) c.item-item.is ∙ ap as_str n.is in
    absurd (cc (said, c.in_default.ensures, c.in_default.is))
