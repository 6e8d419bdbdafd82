use Rattle.std.proofs.Common.{◌≡◌, ◌++◌, take}
use Rattle.gb_history.specs.Places.{slashed}
use Rattle.gb_history.proofs.record_place.push_slashed.Given as goal

abbrev pub invariant-loop-byte : goal.invariant-loop-byte
invariant-loop-byte l = l.text.items ≡ l.fn.text.items ++ slashed (take l.byte-index l.path)
