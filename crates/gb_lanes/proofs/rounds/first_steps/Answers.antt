use Rattle.std.proofs.Common.{refl}
use Rattle.sha2.specs.Sha256.{rounds}
use Rattle.gb_lanes.specs.Lanes.{lane}
use Rattle.gb_lanes.proofs.rounds.first_steps.Goals as goal

pub returns : goal.returns
unfolding rounds
returns c = λ b j low window.
    let h = lane j c.args.state in
    let s1 = c.first_four_steps-v.ensures b h j low window refl in
    let s2 = c.first_four_steps-v-2.ensures b h j low window s1 in
    let s3 = c.first_four_steps-v-3.ensures b h j low window s2 in
    c.first_four_steps.ensures b h j low window s3
