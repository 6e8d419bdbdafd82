use Rattle.std.proofs.Common.{◌≡◌}
use Rattle.std.specs.List.{AllByRecursion}
use Rattle.gb_history.specs.Record.{IsAction}
use Rattle.gb_history.specs.Text.{FitsEdition, IsActionIn}
use Rattle.gb_history.specs.declared.fault.RecordFault.TheVariants.{OutOfMemory}
use Rattle.gb_history.proofs.Lists.{all_both, err_passes, result_same}
use Rattle.gb_history.proofs.from_json.run_from.Goals as goal

pub returns-in_err-actions-clause-read : goal.returns-in_err-actions-clause-read
returns-in_err-actions-clause-read c path run h fits e =
    let edition = c.args.edition in
    let all : AllByRecursion (IsActionIn edition) run.actions = all_both IsAction (FitsEdition edition) run.actions h.actions fits in
    let reported : c.in_err-actions.field-0.0 ≡ OutOfMemory = c.in_err-actions.ensures.read run.actions all (c.in-Some.ensures edition path run e).0 in
    err_passes c.from_residual.result (λ got. got ≡ run) (λ x. x ≡ OutOfMemory) (rw reported at c.from_residual.ensures.1)

pub returns-clause-read : goal.returns-clause-read
returns-clause-read c path run h fits e =
    let edition = c.args.edition in
    let lists = c.in-Some.ensures edition path run e in
    let all : AllByRecursion (IsActionIn edition) run.actions = all_both IsAction (FitsEdition edition) run.actions h.actions fits in
    result_same c.in_order.result run (λ x. x ≡ OutOfMemory)
    (c.in_order.ensures.read run h.in_order
    (c.in_ok-actions.ensures.read run.actions all lists.0)
    (c.in_ok-values.ensures run.values h.values lists.3)
    (c.in_ok-inputs.ensures run.inputs h.inputs lists.1)
    (c.in_ok-outputs.ensures run.outputs h.outputs lists.2))
