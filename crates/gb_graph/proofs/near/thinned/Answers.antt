use Rattle.std.proofs.Common.{◌≡◌, ◌+◌, length, get_or, take, ap, sym, subst, ◌∙◌, arith}
use Rattle.std.proofs.Math.Seq.{take-length}
use Rattle.std.proofs.lemmas.List.{get_or_default}
use Rattle.gb_graph.specs.declared.near.Near.{Near}
use Rattle.gb_graph.specs.Near.{AreThinned, HasTwo}
use Rattle.gb_graph.proofs.Nearby.{thinned_left, thinned_more}
use Rattle.gb_graph.proofs.near.thinned.Goals as goal
use Rattle.gb_graph.proofs.near.thinned.Goals.{then-not-ends_in_two+in_ok-push, else-not-ends_in_two}

pub loop-near-preserved : goal.loop-near-preserved
loop-near-preserved c =
    let row = c.args.row.now in
    let i = c.loop-near.near-index in
    let lt = c.loop-near-test.true in
    let near : Near = get_or row i (record { task = 0; number = 0 }) in
    let is : near ≡ get_or row i near = get_or_default row i (record { task = 0; number = 0 }) near lt in
    let kept = c.loop-near.thinned.items in
    elim c.if-not-ends_in_two.branch [
      | then-not-ends_in_two+in_ok-push w ↦
          subst (AreThinned (take (i + 1) row)) (sym (ap (λ (v : _). v.items) w.thinned-is ∙ w.in_ok-push.ensures.items))
          (thinned_more row kept i near lt is c.loop-near.invariant)
      | else-not-ends_in_two w ↦
          subst (AreThinned (take (i + 1) row)) (sym (ap (λ (v : _). v.items) w.thinned-is))
          (thinned_left row kept i near lt is (subst (λ r. HasTwo r near.task) c.as_slice.ensures.value w.if-not-ends_in_two.ensures) c.loop-near.invariant)
    ]

pub returns : goal.returns
returns c =
    let row = c.args.row.now in
    let e : length row ≡ c.loop-near.near-index = omega (arith, c.loop-near-test.false, c.loop-near.auto.near-index-end) in
    subst (λ r. AreThinned r c.loop-near.thinned.items) (ap (λ n. take n row) (sym e) ∙ take-length row) c.loop-near.invariant
