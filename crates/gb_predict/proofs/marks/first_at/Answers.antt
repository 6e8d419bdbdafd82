use Rattle.std.proofs.Common.{◌≡◌, ◌<◌, ◌+◌, ◌↔◌, ℕ, List, Option, length, get_or, take, Contains, ap, sym, subst, ◌∙◌, arith, true}
use Rattle.std.proofs.Math.Seq.{take-length}
use Rattle.std.proofs.lemmas.List.{get_or_default}
use Rattle.std.proofs.lemmas.List.Elements.{Contains-get_or}
use Rattle.gb_core.specs.Place.{overlaps}
use Rattle.gb_graph.specs.Places.{place_at}
use Rattle.gb_predict.specs.Least.{ByOne, IsLeast}
use Rattle.gb_predict.proofs.Least.{IsChangedAt, changed_at, least_more, root_least}
use Rattle.gb_predict.proofs.marks.first_at.Goals as goal

pub bounds-row-index : goal.bounds-row-index
bounds-row-index c =
    let indices = c.deref-index-items.result.now in
    let k = get_or indices c.loop-index.index-index 0 in
    ((c.in_ok-found.ensures k).0 (subst (λ ks. Contains ks k) c.deref-index-items.ensures.value (Contains-get_or indices c.loop-index.index-index 0 c.loop-index-test.true))).0

pub offset_bounds-row-index : goal.offset_bounds-row-index
offset_bounds-row-index c =
    let lt = bounds-row-index c in
    omega (arith, lt)

pub loop-index-preserved : goal.loop-index-preserved
loop-index-preserved c =
    let row = c.args.row.now in
    let reported = c.args.reported.now in
    let indices = c.deref-index-items.result.now in
    let i = c.loop-index.index-index in
    let lt = c.loop-index-test.true in
    let k = get_or indices i 0 in
    let low : k < length row = ((c.in_ok-found.ensures k).0 (subst (λ ks. Contains ks k) c.deref-index-items.ensures.value (Contains-get_or indices i 0 lt))).0 in
    subst (λ (o : Option ℕ). IsLeast (ByOne (IsChangedAt row reported) (take (i + 1) indices)) o) (sym c.lesser-first.ensures)
    (least_more (IsChangedAt row reported) indices i k c.loop-index.first c.changed.result lt (get_or_default indices i 0 k lt) c.loop-index.invariant
    (changed_at row reported k c.index-row-index.result c.changed.result low c.index-row-index.is c.changed.ensures))

pub returns : goal.returns
returns c =
    let row = c.args.row.now in
    let reported = c.args.reported.now in
    let root = c.args.root.now in
    let indices = c.deref-index-items.result.now in
    let e : length indices ≡ c.loop-index.index-index = omega (arith, c.loop-index-test.false, c.loop-index.auto.index-index-end) in
    root_least row reported root indices c.loop-index.first
    (subst (λ (ks : List ℕ). (k : ℕ) → Contains ks k ↔ ((k < length row) × (overlaps root (place_at row k) ≡ true))) (sym c.deref-index-items.ensures.value) c.in_ok-found.ensures)
    (subst (λ (ks : List ℕ). IsLeast (ByOne (IsChangedAt row reported) ks) c.loop-index.first) (ap (λ n. take n indices) (sym e) ∙ take-length indices) c.loop-index.invariant)
