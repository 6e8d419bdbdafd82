use Rattle.std.proofs.Common.{take}
use Rattle.gb_tree.specs.Sieve.{Sieves}
use Rattle.gb_tree.proofs.sieve.Sieve.new.Given as goal

abbrev pub invariant-loop-pattern : goal.invariant-loop-pattern
invariant-loop-pattern l = Sieves l.plain l.wild.items (take l.pattern-index l.all)
