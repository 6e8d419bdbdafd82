use Rattle.std.proofs.Common.{◌≡◌, ap, ◌∙◌, arith, codes}
use Rattle.serde_json.specs.Find.{get}
use Rattle.serde_json.specs.View.{view}
use Rattle.gb_history.specs.Record.{ArePrints}
use Rattle.gb_history.specs.Text.{prints_json}
use Rattle.gb_history.specs.declared.fault.RecordFault.TheVariants.{OutOfMemory}
use Rattle.gb_history.proofs.Lists.{err_passes, next, read_one_more}
use Rattle.gb_history.proofs.from_json.properties_from.Goals as goal

pub loop-item-preserved : goal.loop-item-preserved
loop-item-preserved c xs all e =
    let n = next view prints_json ArePrints c.args.items.now xs c.loop-item.item-index c.item-item.result e all (omega arith) in
    let here : view c.item-item.result ≡ prints_json n.value = ap view c.item-item.is ∙ n.is in
    rw c.in_ok-push.ensures.items (read_one_more _ xs _ _ n.value (c.loop-item.invariant xs all e) (c.in_ok-prints_from.ensures n.value n.holds (ap (get (codes "name")) here) (ap (get (codes "prints")) here)) n.more)

pub returns-in_err-prints_from : goal.returns-in_err-prints_from
returns-in_err-prints_from c xs all e =
    let n = next view prints_json ArePrints c.args.items.now xs c.loop-item.item-index c.item-item.result e all (omega arith) in
    let here : view c.item-item.result ≡ prints_json n.value = ap view c.item-item.is ∙ n.is in
    let reported : c.in_err-prints_from.field-0.0 ≡ OutOfMemory = c.in_err-prints_from.ensures n.value n.holds (ap (get (codes "name")) here) (ap (get (codes "prints")) here) in
    err_passes c.from_residual.result (λ got. got.items ≡ xs) (λ x. x ≡ OutOfMemory) (rw reported at c.from_residual.ensures.1)
