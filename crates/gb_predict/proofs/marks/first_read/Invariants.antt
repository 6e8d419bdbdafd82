use Rattle.std.proofs.Common.{take}
use Rattle.gb_predict.specs.Least.{IsLeast, IsReadBy}
use Rattle.gb_predict.proofs.marks.first_read.Given as goal

abbrev pub invariant-loop-property : goal.invariant-loop-property
invariant-loop-property l = IsLeast (IsReadBy l.row l.reported (take l.property-index l.files)) l.first
