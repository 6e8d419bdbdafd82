use Rattle.std.proofs.Common.{◌≡◌, ap, ◌∙◌, arith}
use Rattle.sha2.specs.Sha256.{hash_after, initial_hash_256}
use Rattle.gb_lanes.proofs.LaneLemmas.{next_block}
use Rattle.gb_lanes.proofs.four.side_by_side.Goals as goal

pub taken-init : goal.taken-init
unfolding hash_after
taken-init c = c.initial_states-states.ensures

pub taken-preserved : goal.taken-preserved
taken-preserved c = λ j low.
    c.compress_four-next.ensures j low
    ∙ next_block c.args.first.now.content.now c.args.second.now.content.now c.args.third.now.content.now c.args.fourth.now.content.now
    _ _ _ _ _ c.taken.i c.block.ensures.block c.block-in-taken.ensures.block
    c.block-in-taken-2.ensures.block c.block-in-taken-3.ensures.block j low (c.taken.invariant j low)

pub returns : goal.returns
returns c = λ j low.
    let done : c.taken.i ≡ c.args.count = omega arith in
    c.taken.invariant j low ∙ ap (hash_after initial_hash_256 _) done
