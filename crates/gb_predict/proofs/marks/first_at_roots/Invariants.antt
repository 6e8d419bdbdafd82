use Rattle.std.proofs.Common.{take}
use Rattle.gb_predict.specs.Least.{ByOne, IsLeast, IsReadAt}
use Rattle.gb_predict.proofs.marks.first_at_roots.Given as goal

abbrev pub invariant-loop-root : goal.invariant-loop-root
invariant-loop-root l = IsLeast (ByOne (IsReadAt l.row l.reported) (take l.root-index l.roots)) l.first
