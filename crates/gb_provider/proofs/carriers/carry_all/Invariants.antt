use Rattle.std.proofs.Common.{◌≡◌, [], drop}
use Rattle.gb_provider.specs.Produced.{carry_all}
use Rattle.gb_provider.specs.Rounds.{reading}
use Rattle.gb_provider.specs.Search.{known}
use Rattle.gb_provider.proofs.carriers.carry_all.Given as goal

abbrev pub invariant-loop-operand : goal.invariant-loop-operand
invariant-loop-operand l = reading (known l.states) (carry_all [] l.operands) ≡ reading (known l.states) (carry_all l.tasks (drop l.operand-index l.operands))
