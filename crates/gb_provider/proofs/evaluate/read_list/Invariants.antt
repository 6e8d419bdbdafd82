use Rattle.std.proofs.Common.{◌≡◌, [], drop, false}
use Rattle.gb_provider.specs.Rounds.{reading}
use Rattle.gb_provider.specs.Rules.{list_rule}
use Rattle.gb_provider.specs.Search.{known}
use Rattle.gb_provider.proofs.evaluate.read_list.Given as goal

abbrev pub invariant-loop-operand : goal.invariant-loop-operand
invariant-loop-operand l = reading (known l.states) (list_rule false [] l.operands) ≡ reading (known l.states) (list_rule l.is_wrong l.texts (drop l.operand-index l.operands))
