use Rattle.std.proofs.Common.{◌≡◌, ℕ, ◌+◌, ◌%◌, arith, refl}
use Rattle.gb_lanes.proofs.LaneLemmas.{slice_index-window}
use Rattle.gb_lanes.proofs.rounds.next_word.Goals as goal

pub returns : goal.returns
returns c =
    let at : c.args.place % 16 ≡ c.args.place = omega arith in
    let place = c.args.place in
    let word = λ (j k : ℕ). slice_index-window j c.args.w.now k in
    record {
      value = λ j h.
          rw (
            at,
            word j ((place + 14) % 16),
            word j ((place + 9) % 16),
            word j ((place + 1) % 16),
            word j place,
            c.add-word.ensures j h,
            c.add.ensures j h,
            c.add-near.ensures j h,
            c.small_sigma1.ensures j h,
            c.small_sigma0.ensures j h,
          ) refl;
      window = refl;
    }
