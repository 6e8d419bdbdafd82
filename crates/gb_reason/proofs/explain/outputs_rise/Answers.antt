use Rattle.std.proofs.Common.{arith}
use Rattle.gb_history.specs.declared.record.OutputRecord.{OutputRecord}
use Rattle.gb_reason.proofs.Elements.{HasOrder}
use Rattle.gb_reason.proofs.Loops.{all_from, all_left, in_prints}
use Rattle.gb_reason.proofs.explain.outputs_rise.Goals as goal

pub loop-output-init : goal.loop-output-init
loop-output-init c = λ all. all

pub loop-output-preserved : goal.loop-output-preserved
loop-output-preserved c = λ later.
    c.loop-output.invariant
    (all_from (λ (output : OutputRecord). HasOrder output.prints) c.args.outputs.now c.loop-output.output-index c.output-item.result (omega arith) c.output-item.is
    c.as_slice-digests.ensures.ordered later)

pub returns : goal.returns
returns c =
    in_prints c.args.outputs.now
    (c.loop-output.invariant (all_left (λ (output : OutputRecord). HasOrder output.prints) c.args.outputs.now c.loop-output.output-index (omega arith)))
