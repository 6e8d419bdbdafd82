use Rattle.std.proofs.Common.{◌↔◌, List, ℕ, Contains, subst}
use Rattle.std.proofs.lemmas.Result.{IfOk-weaker}
use Rattle.gb_graph.specs.declared.near.Near.{Near}
use Rattle.gb_graph.specs.Near.{AreNear, AreThinned, IsAmong}
use Rattle.gb_graph.proofs.Nearby.{among_all, near_thinned}
use Rattle.gb_graph.proofs.near.near_to.Goals as goal

pub numbers_at-requires : goal.numbers_at-requires
numbers_at-requires c = λ k h. ((c.in_ok-indices.ensures k).0 (subst (λ (ks : List ℕ). Contains ks k) c.as_slice.ensures.value h)).0

pub returns : goal.returns
returns c =
    let outputs = c.args.outputs.now in
    let place = c.args.place.now in
    let indices = c.in_ok-indices.indices.items in
    let row = c.in_ok-row.row.items in
    let moved = c.sort_by_task.new.row.items in
    IfOk-weaker c.thinned.result (λ thinned. AreThinned c.as_slice-sorted.result.now thinned.items) (λ thinned. AreNear outputs place thinned.items)
    (λ thinned h. near_thinned outputs place row moved thinned.items
    (among_all outputs place indices row c.in_ok-indices.ensures (subst (λ (ks : List ℕ). (near : Near) → Contains row near ↔ IsAmong outputs ks near) c.as_slice.ensures.value c.in_ok-row.ensures))
    c.sort_by_task.ensures (subst (λ (r : List Near). AreThinned r thinned.items) c.as_slice-sorted.ensures.value h))
    c.thinned.ensures
