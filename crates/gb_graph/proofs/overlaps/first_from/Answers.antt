use Rattle.std.proofs.Common.{◌≡◌, ◌<◌, ◌+◌, ◌-◌, ◌/◌, length, true, false, arith, ap, sym, ◌∙◌, inl, inr}
use Rattle.std.proofs.lemmas.Bool.{cases_Bool}
use Rattle.gb_graph.specs.Overlaps.{with_sign}
use Rattle.gb_graph.specs.Places.{is_before, place_at}
use Rattle.gb_graph.specs.declared.places.TaskPlace.{TaskPlace}
use Rattle.gb_graph.proofs.RefusalRows.{place_found}
use Rattle.gb_graph.proofs.Keeping.{not_both}
use Rattle.gb_graph.proofs.overlaps.first_from.Goals as goal

pub loop-low-preserved-then-is_before : goal.loop-low-preserved-then-is_before
loop-low-preserved-then-is_before c =
    let row = c.args.row.now in
    let text = with_sign c.args.text.now c.args.sign in
    let mid = c.loop-low.low + (c.loop-low.high - c.loop-low.low) / 2 in
    let lt : mid < length row = omega arith in
    let reported : is_before (place_at row mid) text ≡ true =
    ap (λ x. is_before x text) (place_found row mid c.index-row-middle.result lt ∙ ap (λ (d : TaskPlace). d.place) (sym c.index-row-middle.is)) ∙ sym c.is_before.ensures ∙ c.if-is_before.true in
    record {
      ordered = omega arith;
      within = c.loop-low.invariant.within;
      below = λ i l. c.requires text i mid (omega arith) lt reported;
      above = c.loop-low.invariant.above;
    }

pub loop-low-preserved : goal.loop-low-preserved
loop-low-preserved c =
    let row = c.args.row.now in
    let text = with_sign c.args.text.now c.args.sign in
    let mid = c.loop-low.low + (c.loop-low.high - c.loop-low.low) / 2 in
    let lt : mid < length row = omega arith in
    let reported : is_before (place_at row mid) text ≡ false =
    ap (λ x. is_before x text) (place_found row mid c.index-row-middle.result lt ∙ ap (λ (d : TaskPlace). d.place) (sym c.index-row-middle.is)) ∙ sym c.is_before.ensures ∙ c.if-is_before.false in
    record {
      ordered = omega arith;
      within = omega arith;
      below = c.loop-low.invariant.below;
      above = λ i g l. elim (cases_Bool (is_before (place_at row i) text)) [
        | inl t ↦ not_both (c.requires text mid i g l t) reported
        | inr f ↦ f
      ];
    }
