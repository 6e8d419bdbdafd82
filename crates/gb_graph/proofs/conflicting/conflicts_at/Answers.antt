use Rattle.std.proofs.Common.{◌≡◌, ◌+◌, ◌↔◌, ℕ, List, length, get_or, take, Contains, ap, sym, subst, ◌∙◌, arith}
use Rattle.std.proofs.Math.Seq.{take-length}
use Rattle.std.proofs.lemmas.List.{get_or_default}
use Rattle.gb_graph.specs.Order.{rows}
use Rattle.gb_graph.specs.declared.near.Near.{Near}
use Rattle.gb_graph.proofs.Nearby.{IsMetBy, met_more, met_passed, met_all}
use Rattle.gb_graph.proofs.conflicting.conflicts_at.Goals as goal
use Rattle.gb_graph.proofs.conflicting.conflicts_at.Goals.{then-counts+in_ok-push, else-counts}

pub loop-output-preserved : goal.loop-output-preserved
loop-output-preserved c =
    let search = c.args.search in
    let chains = rows c.args.chains.now in
    let near = c.args.near.now in
    let at = c.args.at.now in
    let i = c.loop-output.output-index in
    let lt = c.loop-output-test.true in
    let output : Near = get_or near i (record { task = 0; number = 0 }) in
    let is : output ≡ get_or near i output = get_or_default near i (record { task = 0; number = 0 }) output lt in
    let tasks = c.loop-output.tasks.items in
    let Reported : List ℕ → Type 0 = λ ts. (task : ℕ) → Contains ts task ↔ IsMetBy search chains at (take (i + 1) near) task in
    elim c.if-counts.branch [
      | then-counts+in_ok-push w ↦
          subst Reported (sym (ap (λ (v : _). v.items) w.tasks-is ∙ w.in_ok-push.ensures.items))
          (met_more search chains at near i output tasks lt is c.loop-output.invariant (sym c.counts.ensures ∙ w.if-counts.true))
      | else-counts w ↦
          subst Reported (sym (ap (λ (v : _). v.items) w.tasks-is))
          (met_passed search chains at near i output tasks lt is c.loop-output.invariant (sym c.counts.ensures ∙ w.if-counts.false))
    ]

pub returns : goal.returns
returns c =
    let search = c.args.search in
    let chains = rows c.args.chains.now in
    let near = c.args.near.now in
    let at = c.args.at.now in
    let tasks = c.loop-output.tasks.items in
    let e : length near ≡ c.loop-output.output-index = omega (arith, c.loop-output-test.false, c.loop-output.auto.output-index-end) in
    λ outputs overlapping.
    met_all search chains at outputs near tasks overlapping
    (subst (λ (ns : List Near). (task : ℕ) → Contains tasks task ↔ IsMetBy search chains at ns task) (ap (λ n. take n near) (sym e) ∙ take-length near) c.loop-output.invariant)
