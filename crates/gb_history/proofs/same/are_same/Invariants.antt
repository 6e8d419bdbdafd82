use Rattle.std.proofs.Common.{◌≡◌, take, length}
use Rattle.gb_history.proofs.same.are_same.Given as goal

abbrev pub invariant-loop-at : goal.invariant-loop-at
invariant-loop-at g l = (length l.left ≡ length l.right) × (take l.at l.left ≡ take l.at l.right)
