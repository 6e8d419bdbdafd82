use Rattle.std.proofs.Common.{ap, take, ◌∙◌}
use Rattle.gb_tree.specs.Prints.{digests_of}
use Rattle.gb_run.specs.Steps.{after_steps}
use Rattle.gb_run.proofs.SteppedOn.{after_more}
use Rattle.gb_run.proofs.digests.Digests.follow_each.Goals as goal

pub loop-step-preserved : goal.loop-step-preserved
loop-step-preserved c = λ files is.
    let steps = c.args.steps.now in
    let index = c.loop-step.step-index in
    c.in_ok-follow_one.ensures (after_steps files (take index steps)) (c.loop-step.invariant files is)
    ∙ ap digests_of (after_more steps index c.step-item.result c.loop-step-test.true c.step-item.is files)
