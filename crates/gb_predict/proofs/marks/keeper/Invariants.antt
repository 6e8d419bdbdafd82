use Rattle.std.proofs.Common.{◌≡◌}
use Rattle.gb_predict.specs.Marks.{first_culprit, keeper}
use Rattle.gb_predict.proofs.marks.keeper.Given as goal

abbrev pub invariant-loop-path : goal.invariant-loop-path
invariant-loop-path l = keeper l.task l.reported ≡ first_culprit l.reported l.path-iterator
