use Rattle.std.proofs.Common.{arith}
use Rattle.gb_reason.proofs.Elements.{HasOrder}
use Rattle.gb_reason.proofs.Loops.{all_from, all_left}
use Rattle.gb_reason.proofs.explain.inputs_rise.Goals as goal

pub loop-prints-init : goal.loop-prints-init
loop-prints-init c = λ all. all

pub loop-prints-preserved : goal.loop-prints-preserved
loop-prints-preserved c = λ later.
    c.loop-prints.invariant
    (all_from HasOrder c.args.inputs.now c.loop-prints.prints-index c.prints-item.result (omega arith) c.prints-item.is c.as_slice-digests.ensures.ordered later)

pub returns : goal.returns
returns c = c.loop-prints.invariant (all_left HasOrder c.args.inputs.now c.loop-prints.prints-index (omega arith))
