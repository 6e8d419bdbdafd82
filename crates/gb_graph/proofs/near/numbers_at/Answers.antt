use Rattle.std.proofs.Common.{◌≡◌, ◌+◌, ◌↔◌, ℕ, List, length, get_or, take, Contains, ap, sym, subst, ◌∙◌, arith}
use Rattle.std.proofs.Math.Seq.{take-length}
use Rattle.std.proofs.lemmas.List.{get_or_default}
use Rattle.std.proofs.lemmas.List.Elements.{Contains-get_or}
use Rattle.gb_graph.specs.declared.near.Near.{Near}
use Rattle.gb_graph.specs.declared.places.TaskPlace.{TaskPlace}
use Rattle.gb_graph.specs.Near.{IsAmong}
use Rattle.gb_graph.proofs.Nearby.{among_more}
use Rattle.gb_graph.proofs.near.numbers_at.Goals as goal

pub bounds-outputs-index : goal.bounds-outputs-index
bounds-outputs-index c = c.requires _ (Contains-get_or c.args.indices.now c.loop-index.index-index 0 c.loop-index-test.true)

pub offset_bounds-outputs-index : goal.offset_bounds-outputs-index
offset_bounds-outputs-index c =
    let lt = bounds-outputs-index c in
    omega (arith, lt)

pub loop-index-preserved : goal.loop-index-preserved
loop-index-preserved c =
    let outputs = c.args.outputs.now in
    let indices = c.args.indices.now in
    let i = c.loop-index.index-index in
    let lt = c.loop-index-test.true in
    let k : ℕ = get_or indices i 0 in
    let output : TaskPlace = c.index-outputs-index.result in
    subst (λ (row : List Near). (near : Near) → Contains row near ↔ IsAmong outputs (take (i + 1) indices) near) (sym c.in_ok-push.ensures.items)
    (among_more outputs indices i k output c.loop-index.row.items lt (get_or_default indices i 0 k lt) (c.requires k (Contains-get_or indices i 0 lt)) c.index-outputs-index.is c.loop-index.invariant)

pub returns : goal.returns
returns c =
    let outputs = c.args.outputs.now in
    let indices = c.args.indices.now in
    let e : length indices ≡ c.loop-index.index-index = omega (arith, c.loop-index-test.false, c.loop-index.auto.index-index-end) in
    subst (λ (ks : List ℕ). (near : Near) → Contains c.loop-index.row.items near ↔ IsAmong outputs ks near) (ap (λ n. take n indices) (sym e) ∙ take-length indices) c.loop-index.invariant
