use Rattle.std.proofs.Common.{◌≡◌, map, take}
use Rattle.gb_check.specs.DefaultWords.{fault_at}
use Rattle.gb_check.proofs.default_words.found_at.Given as goal

abbrev pub invariant-loop-fault : goal.invariant-loop-fault
invariant-loop-fault l = l.found.items ≡ map (fault_at l.spot) (take l.fault-index l.faults)
