use Rattle.std.proofs.Common.{◌≡◌, ◌∙◌, ap, length, arith}
use Rattle.std.specs.List.{flat_map}
use Rattle.gb_history.specs.Decision.{changes_of}
use Rattle.gb_history.proofs.Deciding.{reported_one_more, all_pairs}
use Rattle.gb_history.proofs.decide.changes_since.Goals as goal

pub loop-at-preserved : goal.loop-at-preserved
loop-at-preserved c =
    reported_one_more (changes_of c.args.incremental.now) _ _ c.loop-at.at _ _ (omega arith) c.requires c.index-old-at.is
    c.index-new-at.is _ _ c.loop-at.invariant c.in_ok-report.ensures

pub returns : goal.returns
returns c =
    let all : c.loop-at.at ≡ length c.args.old.now = omega arith in
    c.loop-at.invariant ∙ ap (flat_map (changes_of c.args.incremental.now)) (all_pairs _ _ c.loop-at.at c.requires all)
