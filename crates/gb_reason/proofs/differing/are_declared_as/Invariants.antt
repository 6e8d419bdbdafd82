use Rattle.std.proofs.Common.{◌≡◌, drop, length}
use Rattle.std.specs.Cmp.Lexicographic.{pointwise}
use Rattle.gb_reason.proofs.differing.are_declared_as.Given as goal

abbrev pub invariant-loop-at : goal.invariant-loop-at
invariant-loop-at g l =
    (length l.old ≡ length l.new)
    × (pointwise g.T.Part.is_declared l.old l.new ≡ pointwise g.T.Part.is_declared (drop l.at l.old) (drop l.at l.new))
