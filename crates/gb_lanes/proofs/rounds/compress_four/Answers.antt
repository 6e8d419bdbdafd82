use Rattle.std.proofs.Common.{◌≡◌, ap, ◌*◌, ◌∙◌, arith}
use Rattle.sha2.specs.Sha256.{add_state, compress}
use Rattle.gb_lanes.specs.Lanes.{in_lane, lane}
use Rattle.gb_lanes.proofs.rounds.compress_four.Goals as goal

pub schedule-init : goal.schedule-init
schedule-init c = λ j low.
    let b = in_lane c.args.first.now c.args.second.now c.args.third.now c.args.fourth.now j in
    let window = c.load_blocks.ensures j low in
    (window, c.first_steps-v.ensures b j low window)

pub schedule-preserved : goal.schedule-preserved
schedule-preserved c = λ j low.
    let b = in_lane c.args.first.now c.args.second.now c.args.third.now c.args.fourth.now j in
    c.sixteen_steps-next.ensures b (lane j c.args.state) j low (c.schedule.invariant j low)

pub returns : goal.returns
unfolding compress
returns c = λ j low.
    let done : 16 * c.schedule.turn ≡ 64 = omega (arith, c.schedule.auto.turn-end (omega arith)) in
    let held = (c.schedule.invariant j low).1 in
    c.add_states.ensures j low ∙ ap (add_state (lane j c.args.state)) (rw done at held)
