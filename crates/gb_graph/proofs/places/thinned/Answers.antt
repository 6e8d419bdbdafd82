use Rattle.std.proofs.Common.{◌≡◌, [], sym, subst, arith}
use Rattle.std.specs.Vec.Iter.{into_iter_items}
use Rattle.gb_graph.proofs.Reached.{nil_of}
use Rattle.gb_graph.specs.Places.{OccursTwice}
use Rattle.gb_graph.proofs.Thinned.{IsSoFar, so_far_left, so_far_kept, all_thinned, all_rising}
use Rattle.gb_graph.proofs.places.thinned.Goals as goal

pub loop-at-preserved : goal.loop-at-preserved
loop-at-preserved c =
    so_far_left c.args.row.items c.loop-at.thinned.items (into_iter_items c.next.new.self) (into_iter_items c.loop-at.at-iterator) c.in-Some.at c.in-Some.ensures.steps.0
    (subst (λ row. OccursTwice row c.in-Some.at) c.as_slice.ensures.value c.if-not-ends_in_two.ensures) c.loop-at.invariant

pub loop-at-preserved-else-not-ends_in_two : goal.loop-at-preserved-else-not-ends_in_two
loop-at-preserved-else-not-ends_in_two c =
    so_far_left c.args.row.items c.loop-at.thinned.items (into_iter_items c.next.new.self) (into_iter_items c.loop-at.at-iterator) c.in-Some.at c.in-Some.ensures.steps.0
    (subst (λ row. OccursTwice row c.in-Some.at) c.as_slice.ensures.value c.if-not-ends_in_two.ensures) c.loop-at.invariant

pub loop-at-preserved-in-Continue-1 : goal.loop-at-preserved-in-Continue-1
loop-at-preserved-in-Continue-1 c =
    subst (λ kept. IsSoFar c.args.row.items kept (into_iter_items c.next.new.self)) (sym c.in_ok-push.ensures.items)
    (so_far_kept c.args.row.items c.loop-at.thinned.items (into_iter_items c.next.new.self) (into_iter_items c.loop-at.at-iterator) c.in-Some.at c.in-Some.ensures.steps.0 c.loop-at.invariant)

pub returns : goal.returns
returns c =
    let row = c.args.row.items in
    let kept = c.loop-at.thinned.items in
    let rest = into_iter_items c.loop-at.at-iterator in
    let none : rest ≡ [] = nil_of rest (let e = c.in-None.ensures.steps.0 in omega (arith, e)) in
    record { thinned = all_thinned row kept rest none c.loop-at.invariant; rising = all_rising row kept rest none c.loop-at.invariant }
