use Rattle.std.proofs.Common.{◌≡◌, ◌<◌, [], length, get_or, Some, sym, subst, ◌∙◌, arith}
use Rattle.std.proofs.lemmas.List.{get_or-map, length-map}
use Rattle.gb_plan.specs.declared.plan.Planned.{Planned}
use Rattle.gb_plan.specs.Graph.{order}
use Rattle.gb_graph.specs.Ranked.{number_at}
use Rattle.gb_graph.proofs.Edges.{numbers_next}
use Rattle.gb_graph.proofs.ranked.numbers_of.Goals as goal

pub loop-number-preserved : goal.loop-number-preserved
loop-number-preserved c =
    let tasks = c.args.tasks.now in
    let i = c.loop-number.number in
    let z = c.index-tasks-number.result in
    let lt : i < length tasks = c.loop-number-test.true in
    let same : length (order tasks) ≡ length tasks = length-map tasks (λ (z : Planned). z.task.path) in
    numbers_next (number_at c.loop-number.numbers) (number_at c.insert.new.self) (order tasks) i (get_or tasks i z).task.path c.requires (omega (arith, lt, same))
    (sym (get_or-map (λ (z : Planned). z.task.path) tasks i z [] lt))
    c.in_ok-insert.ensures c.loop-number.invariant

pub returns : goal.returns
returns c = λ path number.
    let same : length (order c.args.tasks.now) ≡ length c.args.tasks.now = length-map c.args.tasks.now (λ (z : Planned). z.task.path) in
    let over : length c.args.tasks.now ≡ c.loop-number.number = omega (arith, c.loop-number-test.false) in
    subst (λ n. (number_at c.loop-number.numbers path ≡ Some number → (number < n) × (get_or (order c.args.tasks.now) number [] ≡ path))
    × ((number < n) × (get_or (order c.args.tasks.now) number [] ≡ path) → number_at c.loop-number.numbers path ≡ Some number))
    (sym over ∙ sym same) (c.loop-number.invariant path number)
