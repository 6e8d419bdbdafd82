use Rattle.std.proofs.Common.{◌≡◌, length, map, take}
use Rattle.std.specs.List.{zip}
use Rattle.gb_label.specs.Reading.{record_with}
use Rattle.gb_label.proofs.outputs.records_of.Given as goal

abbrev pub invariant-loop-output : goal.invariant-loop-output
invariant-loop-output l = l.records.items ≡ map record_with (take (length l.yielded) (zip l.task.outputs l.fn.prints.items))
