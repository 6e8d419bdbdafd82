use Rattle.std.proofs.Common.{arith}
use Rattle.gb_registry.proofs.Sizes.{element_size, step_size}
use Rattle.gb_registry.proofs.operands.+walk.Goals as goal

pub look_at_all-look_along-requires : goal.look_at_all-look_along-requires
look_at_all-look_along-requires g t c κs within =
    let size = element_size c.args.elements.now c.loop-element.element-index c.element-item.result c.loop-element-test.true c.element-item.is in
    (omega (arith, size, c.decreases), within)

pub look_after-look_by-requires : goal.look_after-look_by-requires
look_after-look_by-requires g t c κs within =
    let size = step_size c.args.steps.now c.loop-step.step-index c.step-item.result c.loop-step-test.true c.step-item.is in
    (omega (arith, size, c.decreases), within)
