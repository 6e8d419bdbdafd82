use Rattle.std.proofs.Common.{◌≡◌, ◌∷◌, [], refl, slice_index}
use Rattle.gb_lanes.proofs.LaneLemmas.{below_four}
use Rattle.gb_lanes.proofs.rounds.round.Goals as goal

pub returns : goal.returns
returns c = λ j h.
    let k = c.args.constant in
    let splat = below_four (λ i. slice_index (k ∷ k ∷ k ∷ k ∷ []) i ≡ k) refl refl refl refl j h in
    rw (
      c.add-3.ensures j h,
      c.add-4.ensures j h,
      c.add-temp2.ensures j h,
      c.add-temp1.ensures j h,
      c.add-2.ensures j h,
      c.add-chosen.ensures j h,
      c.add.ensures j h,
      c.big_sigma0.ensures j h,
      c.big_sigma1.ensures j h,
      c.ch.ensures j h,
      c.maj.ensures j h,
      splat,
    ) refl
