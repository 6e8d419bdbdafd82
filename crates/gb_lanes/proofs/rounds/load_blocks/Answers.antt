use Rattle.std.proofs.Common.{rules, ◌≡◌, [], ap, inl, inr, ◌∙◌, arith, slice_index, length}
use Rattle.std.proofs.lemmas.List.{get_or-set_same, get_or-set_other, length-map}
use Rattle.std.proofs.lemmas.Bool.{cases_lt}
use Rattle.sha2.proofs.Schedule256.{IsWindow_first}
use Rattle.gb_lanes.specs.Lanes.{in_lane, window_lane}
use Rattle.gb_lanes.proofs.LaneLemmas.{slice_index-window}
use Rattle.gb_lanes.proofs.rounds.load_blocks.Goals as goal

pub load-preserved : goal.load-preserved
load-preserved c = (
  search rules,
  λ j k low lt. elim (cases_lt k c.load.i) [
    | inl a ↦
        ap (λ v. slice_index v j) (get_or-set_other c.load.w c.load.i k c.load_words.result [] (omega arith))
        ∙ c.load.invariant.1 j k low a
    | inr b ↦
        let e : c.load.i ≡ k = omega arith in
        rw (← e) (ap (λ v. slice_index v j) (get_or-set_same c.load.w c.load.i c.load_words.result [] (omega arith))
        ∙ c.load_words.ensures j low)
  ],
)

pub returns : goal.returns
returns c = λ j low.
    let long : length (window_lane j c.load.w) ≡ 16 = length-map c.load.w (λ v. slice_index v j) ∙ c.load.invariant.0 in
    IsWindow_first (in_lane c.args.first.now c.args.second.now c.args.third.now c.args.fourth.now j)
    (window_lane j c.load.w) long (λ k lt.
    slice_index-window j c.load.w k ∙ c.load.invariant.1 j k low (omega arith))
