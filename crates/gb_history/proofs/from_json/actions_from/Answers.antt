use Rattle.std.proofs.Common.{◌≡◌, ap, ◌∙◌, arith}
use Rattle.serde_json.specs.View.{view}
use Rattle.gb_history.specs.Text.{action_json, FitsEdition, IsActionIn}
use Rattle.gb_history.specs.declared.fault.RecordFault.TheVariants.{OutOfMemory}
use Rattle.gb_history.proofs.Lists.{AllByRecursion-push, err_passes, next, read_one_more}
use Rattle.gb_history.proofs.from_json.actions_from.Goals as goal

pub loop-item-preserved : goal.loop-item-preserved
loop-item-preserved c = record {
  read = λ xs all e.
      let f = action_json c.args.edition in
      let n = next view f (IsActionIn c.args.edition) c.args.items.now xs c.loop-item.item-index c.item-item.result e all (omega arith) in
      let here : view c.item-item.result ≡ f n.value = ap view c.item-item.is ∙ n.is in
      rw c.in_ok-push.ensures.items (read_one_more _ xs _ _ n.value (c.loop-item.invariant.read xs all e) (c.in_ok-action_from.ensures.read n.value n.holds.0 n.holds.1 here) n.more);
  fits = rw c.in_ok-push.ensures.items (AllByRecursion-push (FitsEdition c.args.edition) _ _ c.loop-item.invariant.fits c.in_ok-action_from.ensures.fits);
}

pub returns-in_err-action_from-clause-read : goal.returns-in_err-action_from-clause-read
returns-in_err-action_from-clause-read c xs all e =
    let f = action_json c.args.edition in
    let n = next view f (IsActionIn c.args.edition) c.args.items.now xs c.loop-item.item-index c.item-item.result e all (omega arith) in
    let here : view c.item-item.result ≡ f n.value = ap view c.item-item.is ∙ n.is in
    let reported : c.in_err-action_from.field-0.0 ≡ OutOfMemory = c.in_err-action_from.ensures.read n.value n.holds.0 n.holds.1 here in
    err_passes c.from_residual.result (λ got. got.items ≡ xs) (λ x. x ≡ OutOfMemory) (rw reported at c.from_residual.ensures.1)
