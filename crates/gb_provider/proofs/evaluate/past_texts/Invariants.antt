use Rattle.std.proofs.Common.{◌-◌, length}
use Rattle.gb_provider.specs.Search.{AreBefore, is_given, known}
use Rattle.gb_provider.proofs.evaluate.past_texts.Given as goal

abbrev pub invariant-loop-at : goal.invariant-loop-at
invariant-loop-at l = AreBefore (λ operand. is_given (known l.states operand)) l.operands l.at

abbrev pub decreases-loop-at : goal.decreases-loop-at
decreases-loop-at l = length l.operands - l.at
