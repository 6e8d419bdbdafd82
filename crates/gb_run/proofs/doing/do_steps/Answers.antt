use Rattle.std.proofs.Common.{List, Ok, subst}
use Rattle.std.proofs.lemmas.List.{take_all}
use Rattle.std.proofs.lemmas.Result.{err_from_is_err_and}
use Rattle.gb_folder.proofs.Machine.{at_err}
use Rattle.gb_run.specs.Steps.{Step}
use Rattle.gb_run.specs.Doing.{Ending}
use Rattle.gb_run.proofs.Done.{Led, led_more, led_short}
use Rattle.gb_run.proofs.doing.do_steps.Goals as goal

pub loop-step-preserved : goal.loop-step-preserved
loop-step-preserved g c = led_more _ c.args.steps.now c.loop-step.step-index c.step-item.result c.loop-step-test.true c.step-item.is _ _ _ c.loop-step.invariant c.in_ok-do_step.ensures

pub returns-in_err-do_step : goal.returns-in_err-do_step
returns-in_err-do_step g c =
    let F = g.F.Folder in
    let p = err_from_is_err_and c.from_residual.result c.from_residual.ensures.1 in
    at_err (λ (r : Ending). Led F.device c.args.steps.now c.args.folder.now r c.do_step.new.folder)
    c.from_residual.result p.0 c.in_err-do_step.field-0.0 p.1 p.2
    (led_short _ c.args.steps.now c.loop-step.step-index c.step-item.result c.loop-step-test.true c.step-item.is _ _ _ c.in_err-do_step.field-0.0 c.loop-step.invariant c.in_err-do_step.ensures)

pub returns : goal.returns
returns g c =
    let F = g.F.Folder in
    subst (λ (steps : List Step). Led F.device steps c.args.folder.now (Ok tt) c.loop-step.folder)
    (take_all c.loop-step.step-index c.args.steps.now c.loop-step-test.false) c.loop-step.invariant
