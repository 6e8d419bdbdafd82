use Rattle.std.proofs.Common.{◌≡◌, take, length}
use Rattle.std.specs.List.{AllZip}
use Rattle.gb_history.specs.Decision.{IsAlike}
use Rattle.gb_history.proofs.decide.are_alike.Given as goal

abbrev pub invariant-loop-at : goal.invariant-loop-at
invariant-loop-at l = (length l.old ≡ length l.new) × AllZip (IsAlike l.incremental) (take l.at l.old) (take l.at l.new)
