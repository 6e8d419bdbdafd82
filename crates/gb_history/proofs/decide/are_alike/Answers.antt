use Rattle.std.proofs.Common.{arith}
use Rattle.gb_history.specs.Decision.{IsAlike}
use Rattle.gb_history.proofs.Deciding.{all_zip_one_more}
use Rattle.gb_history.proofs.decide.are_alike.Goals as goal

pub loop-at-preserved : goal.loop-at-preserved
loop-at-preserved c = (
  c.loop-at.invariant.0,
  all_zip_one_more (IsAlike c.args.incremental.now) _ _ c.loop-at.at _ _ (omega arith) (omega arith) c.index-old-at.is
      c.index-new-at.is
      c.loop-at.invariant.1
      (c.is_alike.ensures.0 c.if-not-is_alike.false),
)
