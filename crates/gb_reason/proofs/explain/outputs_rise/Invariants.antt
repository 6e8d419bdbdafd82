use Rattle.std.proofs.Common.{drop}
use Rattle.std.specs.List.{AllByRecursion}
use Rattle.gb_history.specs.declared.record.OutputRecord.{OutputRecord}
use Rattle.gb_reason.proofs.Elements.{HasOrder}
use Rattle.gb_reason.proofs.explain.outputs_rise.Given as goal

abbrev pub invariant-loop-output : goal.invariant-loop-output
invariant-loop-output l =
    AllByRecursion (λ (output : OutputRecord). HasOrder output.prints) (drop l.output-index l.outputs)
    → AllByRecursion (λ (output : OutputRecord). HasOrder output.prints) l.outputs
