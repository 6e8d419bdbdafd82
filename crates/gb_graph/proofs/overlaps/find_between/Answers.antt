use Rattle.std.proofs.Common.{◌++◌, ◌∷◌, [], ◌<◌, ◌≤◌, ◌⊎◌, ◌↔◌, ◌+◌, ℕ, List, length, Contains, sym, subst, arith, inl, inr}
use Rattle.gb_graph.specs.Overlaps.{with_sign}
use Rattle.gb_graph.specs.Places.{is_before, place_at}
use Rattle.gb_graph.proofs.Cuts.{in_range, one_more, ends}
use Rattle.gb_graph.proofs.overlaps.find_between.Goals as goal

pub loop-index-preserved : goal.loop-index-preserved
loop-index-preserved c =
    let found = c.loop-index.found.items in
    let old = c.loop-index.invariant in
    let first = c.first_from-first.result in
    record {
      bounded = inr (omega (arith, c.loop-index-test.true));
      reported = subst (λ (xs : List ℕ). (k : ℕ) → Contains xs k ↔ (Contains c.args.found.now.items k ⊎ ((first ≤ k) × (k < c.loop-index.index + 1)))) (sym c.in_ok-push.ensures.items)
          (one_more c.args.found.now.items found first c.loop-index.index c.loop-index.auto.index old.reported);
    }

pub returns : goal.returns
returns c =
    let row = c.args.row.now in
    let from = with_sign c.args.text.now c.args.from in
    let to = c.args.text.now ++ c.args.to ∷ [] in
    let first = c.first_from-first in
    let end = c.end_from-end in
    let i = c.loop-index.index in
    λ k.
    let x = place_at row k in
    let range = in_range (is_before x from) (is_before x to) k first.result end.result (length row) end.ensures.within (first.ensures.below k) (first.ensures.above k) (end.ensures.below k) (end.ensures.above k) in
    let reported = c.loop-index.invariant.reported k in
    let stop = ends k first.result end.result i c.loop-index.auto.index (omega (arith, c.loop-index-test.false)) c.loop-index.invariant.bounded in (
      λ h. elim (reported.0 h) [ inl o ↦ inl o | inr at ↦ inr (range.0 (at.0, stop.0 at.1 at.0)) ],
      λ h. reported.1 (elim h [ inl o ↦ inl o | inr at ↦ (let r = range.1 at in inr (r.0, stop.1 r.1)) ]),
    )
