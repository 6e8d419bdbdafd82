use Rattle.std.proofs.Common.{refl}
use Rattle.gb_lanes.proofs.rounds.add_states.Goals as goal

pub returns : goal.returns
returns c = λ j h.
    rw (
      c.add.ensures j h,
      c.add-2.ensures j h,
      c.add-3.ensures j h,
      c.add-4.ensures j h,
      c.add-5.ensures j h,
      c.add-6.ensures j h,
      c.add-7.ensures j h,
      c.add-8.ensures j h,
    ) refl
