use Rattle.std.proofs.Common.{◌≡◌, ap, ◌∙◌, arith}
use Rattle.serde_json.specs.View.{view}
use Rattle.gb_history.specs.Record.{IsPrint}
use Rattle.gb_history.specs.Text.{print_json}
use Rattle.gb_history.specs.declared.fault.RecordFault.TheVariants.{OutOfMemory}
use Rattle.gb_history.proofs.Lists.{err_passes, next, read_one_more}
use Rattle.gb_history.proofs.from_json.digests_from.Goals as goal

pub loop-item-preserved : goal.loop-item-preserved
loop-item-preserved c xs all e =
    let n = next view print_json IsPrint c.args.items.now xs c.loop-item.item-index c.item-item.result e all (omega arith) in
    let here : view c.item-item.result ≡ print_json n.value = ap view c.item-item.is ∙ n.is in
    rw c.in_ok-push.ensures.items (read_one_more _ xs _ _ n.value (c.loop-item.invariant xs all e) (c.in_ok-print_from.ensures n.value n.holds here) n.more)

pub returns-in_err-print_from : goal.returns-in_err-print_from
returns-in_err-print_from c xs all e =
    let n = next view print_json IsPrint c.args.items.now xs c.loop-item.item-index c.item-item.result e all (omega arith) in
    let here : view c.item-item.result ≡ print_json n.value = ap view c.item-item.is ∙ n.is in
    let reported : c.in_err-print_from.field-0.0 ≡ OutOfMemory = c.in_err-print_from.ensures n.value n.holds here in
    err_passes c.from_residual.result (λ got. got.items ≡ xs) (λ x. x ≡ OutOfMemory) (rw reported at c.from_residual.ensures.1)
