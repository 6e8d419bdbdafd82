use Rattle.std.proofs.Common.{◌≡◌, take}
use Rattle.gb_label.specs.Reading.{prints_read}
use Rattle.gb_label.proofs.prints.prints_of.Given as goal

abbrev pub invariant-loop-reading : goal.invariant-loop-reading
invariant-loop-reading l = l.prints.items ≡ prints_read (take l.reading-index l.readings)
