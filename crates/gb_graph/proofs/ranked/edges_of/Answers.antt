use Rattle.std.proofs.Common.{◌≡◌, ◌++◌, List, [], drop, sym, ap, subst, ◌∙◌, arith, append-nil}
use Rattle.std.proofs.lemmas.List.{drop_all}
use Rattle.gb_plan.specs.declared.plan.Planned.{Planned}
use Rattle.gb_plan.specs.Graph.{order}
use Rattle.gb_graph.specs.Ranked.{GiveEdges, GiveNumbers, edges_from}
use Rattle.gb_graph.proofs.Edges.{edges_reported}
use Rattle.gb_graph.proofs.Looked.{numbers_of}
use Rattle.gb_graph.proofs.ranked.edges_of.Goals as goal

pub returns : goal.returns
returns c =
    let tasks = c.args.tasks.now in
    let m = numbers_of c.numbers.inside.entries.entries in
    let n = c.loop-task.task in
    let none : drop n tasks ≡ [] = drop_all n tasks (omega (arith, c.loop-task-test.false)) in
    subst (GiveEdges tasks)
    (sym (sym (append-nil c.loop-task.edges.items) ∙ (ap (λ (zs : List Planned). c.loop-task.edges.items ++ edges_from m n zs) (sym none) ∙ c.loop-task.invariant)))
    (edges_reported m tasks (subst (GiveNumbers (order tasks)) (sym c.numbers.view_is) c.in_ok-numbers.ensures))
