use Rattle.std.proofs.Common.{◌≡◌, ◌++◌, ◌∷◌, [], true, false, arith, ap, sym, ◌∙◌, inl, inr}
use Rattle.std.proofs.lemmas.Bool.{cases_Bool}
use Rattle.gb_graph.specs.Places.{is_before, place_at}
use Rattle.gb_graph.specs.declared.places.TaskPlace.{TaskPlace}
use Rattle.gb_graph.proofs.Cuts.{below_or_at}
use Rattle.gb_graph.proofs.RefusalRows.{place_found}
use Rattle.gb_graph.proofs.Keeping.{not_both}
use Rattle.gb_graph.proofs.overlaps.end_from.Goals as goal

pub returns-then-not-is_before-clause-above : goal.returns-then-not-is_before-clause-above
returns-then-not-is_before-clause-above c =
    let row = c.args.row.now in
    let text = c.args.text.now ++ c.args.sign ∷ [] in
    let end = c.loop-end.end in
    let reported : is_before (place_at row end) text ≡ false =
    ap (λ x. is_before x text) (place_found row end c.index-row-end.result c.loop-end-test.true ∙ ap (λ (d : TaskPlace). d.place) (sym c.index-row-end.is)) ∙ sym c.is_before.ensures ∙ c.if-not-is_before.true in
    λ i g l. elim (cases_Bool (is_before (place_at row i) text)) [
      | inl t ↦ not_both (c.requires.rising text end i g l t) reported
      | inr f ↦ f
    ]

pub loop-end-preserved : goal.loop-end-preserved
loop-end-preserved c =
    let row = c.args.row.now in
    let text = c.args.text.now ++ c.args.sign ∷ [] in
    let end = c.loop-end.end in
    let reported : is_before (place_at row end) text ≡ true =
    ap (λ x. is_before x text) (place_found row end c.index-row-end.result c.loop-end-test.true ∙ ap (λ (d : TaskPlace). d.place) (sym c.index-row-end.is)) ∙ sym c.is_before.ensures ∙ c.if-not-is_before.false in
    record {
      within = omega (arith, c.loop-end-test.true);
      below = λ i g l. elim (below_or_at i end l) [
        | inl under ↦ c.loop-end.invariant.below i g under
        | inr is ↦ ap (λ n. is_before (place_at row n) text) is ∙ reported
      ];
    }
