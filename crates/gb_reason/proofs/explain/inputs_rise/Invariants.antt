use Rattle.std.proofs.Common.{drop}
use Rattle.std.specs.List.{AllByRecursion}
use Rattle.gb_reason.proofs.Elements.{HasOrder}
use Rattle.gb_reason.proofs.explain.inputs_rise.Given as goal

abbrev pub invariant-loop-prints : goal.invariant-loop-prints
invariant-loop-prints l = AllByRecursion HasOrder (drop l.prints-index l.inputs) → AllByRecursion HasOrder l.inputs
