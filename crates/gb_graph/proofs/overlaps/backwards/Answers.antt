use Rattle.std.proofs.Common.{rules, ◌≡◌, ◌<◌, ◌-◌, length, true, false, arith, ap, sym, ◌∙◌, inl, inr}
use Rattle.std.proofs.lemmas.Bool.{cases_Bool}
use Rattle.gb_graph.specs.Overlaps.{with_sign}
use Rattle.gb_graph.specs.Places.{is_before, place_at}
use Rattle.gb_graph.specs.declared.places.TaskPlace.{TaskPlace}
use Rattle.gb_graph.proofs.RefusalRows.{place_found}
use Rattle.gb_graph.proofs.Keeping.{not_both}
use Rattle.gb_graph.proofs.overlaps.backwards.Goals as goal

pub loop-step-preserved : goal.loop-step-preserved
loop-step-preserved c =
    let row = c.args.row.now in
    let text = with_sign c.args.text.now c.args.sign in
    let next = c.loop-step.high - c.loop-step.step in
    let lt : next < length row = omega (arith, c.loop-step-test.true, c.loop-step.invariant.positive, c.loop-step.invariant.within) in
    let reported : is_before (place_at row next) text ≡ false =
    ap (λ x. is_before x text) (place_found row next c.index-row-next.result lt ∙ ap (λ (d : TaskPlace). d.place) (sym c.index-row-next.is)) ∙ sym c.is_before.ensures ∙ c.if-is_before.false in
    record {
      positive = search rules;
      within = omega (arith, lt);
      above = λ i g l. elim (cases_Bool (is_before (place_at row i) text)) [
        | inl t ↦ not_both (c.requires.rising text next i g l t) reported
        | inr f ↦ f
      ];
    }

pub returns-then-is_before : goal.returns-then-is_before
returns-then-is_before c =
    let row = c.args.row.now in
    let text = with_sign c.args.text.now c.args.sign in
    let next = c.loop-step.high - c.loop-step.step in
    let lt : next < length row = omega (arith, c.loop-step-test.true, c.loop-step.invariant.positive, c.loop-step.invariant.within) in
    let reported : is_before (place_at row next) text ≡ true =
    ap (λ x. is_before x text) (place_found row next c.index-row-next.result lt ∙ ap (λ (d : TaskPlace). d.place) (sym c.index-row-next.is)) ∙ sym c.is_before.ensures ∙ c.if-is_before.true in
    record {
      ordered = omega (arith, c.loop-step-test.true, c.loop-step.invariant.positive);
      within = c.loop-step.invariant.within;
      below = λ i l. c.requires.rising text i next (omega (arith, l)) lt reported;
      above = c.loop-step.invariant.above;
    }
