use Rattle.std.proofs.Common.{◌≡◌, ◌<◌, length, true, false, arith, ap, sym, ◌∙◌, inl, inr}
use Rattle.std.proofs.lemmas.Bool.{cases_Bool}
use Rattle.gb_graph.specs.Overlaps.{with_sign}
use Rattle.gb_graph.specs.Places.{is_before, place_at}
use Rattle.gb_graph.specs.declared.places.TaskPlace.{TaskPlace}
use Rattle.gb_graph.proofs.RefusalRows.{place_found}
use Rattle.gb_graph.proofs.Keeping.{not_both}
use Rattle.gb_graph.proofs.overlaps.bounds.Goals as goal

pub forwards-requires-clause-below : goal.forwards-requires-clause-below
forwards-requires-clause-below c =
    let row = c.args.row.now in
    let text = with_sign c.args.text.now c.args.sign in
    let guess = c.args.guess in
    let lt : guess < length row = omega (arith, c.if-guess-row.false) in
    let reported : is_before (place_at row guess) text ≡ true =
    ap (λ x. is_before x text) (place_found row guess c.index-row-guess.result lt ∙ ap (λ (d : TaskPlace). d.place) (sym c.index-row-guess.is)) ∙ sym c.is_before.ensures ∙ c.if-is_before.true in
    λ i l. c.requires text i guess (omega (arith, l)) lt reported

pub backwards-requires-else-is_before-clause-above : goal.backwards-requires-else-is_before-clause-above
backwards-requires-else-is_before-clause-above c =
    let row = c.args.row.now in
    let text = with_sign c.args.text.now c.args.sign in
    let guess = c.args.guess in
    let lt : guess < length row = omega (arith, c.if-guess-row.false) in
    let reported : is_before (place_at row guess) text ≡ false =
    ap (λ x. is_before x text) (place_found row guess c.index-row-guess.result lt ∙ ap (λ (d : TaskPlace). d.place) (sym c.index-row-guess.is)) ∙ sym c.is_before.ensures ∙ c.if-is_before.false in
    λ i g l. elim (cases_Bool (is_before (place_at row i) text)) [
      | inl t ↦ not_both (c.requires text guess i g l t) reported
      | inr f ↦ f
    ]
