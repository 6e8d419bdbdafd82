use Rattle.std.proofs.Common.{◌≡◌, take}
use Rattle.gb_provider.specs.Rules.{numbers_of}
use Rattle.gb_provider.proofs.expression.Operands.of.Given as goal

abbrev pub invariant-loop-node : goal.invariant-loop-node
invariant-loop-node l = l.numbers.items ≡ numbers_of (take l.node-index l.nodes)
