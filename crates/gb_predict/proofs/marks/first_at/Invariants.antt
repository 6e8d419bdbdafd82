use Rattle.std.proofs.Common.{take}
use Rattle.gb_predict.specs.Least.{ByOne, IsLeast}
use Rattle.gb_predict.proofs.Least.{IsChangedAt}
use Rattle.gb_predict.proofs.marks.first_at.Given as goal

abbrev pub invariant-loop-index : goal.invariant-loop-index
invariant-loop-index l = IsLeast (ByOne (IsChangedAt l.row l.reported) (take l.index-index l.index-items)) l.first
