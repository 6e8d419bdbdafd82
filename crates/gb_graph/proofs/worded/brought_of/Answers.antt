use Rattle.std.proofs.Common.{◌≡◌, ◌++◌, ◌∷◌, [], ℕ, Vec, length, take, sym, ap, ◌∙◌, arith}
use Rattle.std.proofs.Math.Seq.{take-length}
use Rattle.std.proofs.lemmas.List.{map-append}
use Rattle.std.specs.Global.{Global}
use Rattle.gb_plan.specs.declared.task.TaskDeclaration.{TaskDeclaration}
use Rattle.gb_graph.specs.Order.{rows}
use Rattle.gb_graph.specs.Ranked.{numbers_in}
use Rattle.gb_graph.specs.Words.{brought_rows}
use Rattle.gb_graph.proofs.Selections.{map_more}
use Rattle.gb_graph.proofs.worded.brought_of.Goals as goal

pub loop-task-preserved : goal.loop-task-preserved
loop-task-preserved c =
    let m = c.args.numbers.now in
    let tasks = c.args.tasks.now in
    let i = c.loop-task.task-index in
    let task = c.task-item.result in
    let table = c.loop-task.table.items in
    let row : c.add_numbers-in-loop-task.new.row.items ≡ numbers_in m task.needs ++ numbers_in m task.finalizers =
    c.in_ok-add_numbers-2.ensures ∙ ap (λ r. r ++ numbers_in m task.finalizers) (c.in_ok-add_numbers.ensures ∙ ap (λ r. r ++ numbers_in m task.needs) c.new-row.ensures.items) in
    ap rows c.in_ok-push.ensures.items
    ∙ map-append (λ (v : Vec ℕ Global). v.items) table (c.add_numbers-in-loop-task.new.row ∷ [])
    ∙ ap (λ r. rows table ++ r ∷ []) row
    ∙ ap (λ rs. rs ++ (numbers_in m task.needs ++ numbers_in m task.finalizers) ∷ []) c.loop-task.invariant
    ∙ sym (map_more (λ (t : TaskDeclaration). numbers_in m t.needs ++ numbers_in m t.finalizers) tasks i task c.loop-task-test.true c.task-item.is)

pub returns : goal.returns
returns c =
    let tasks = c.args.tasks.now in
    let e : length tasks ≡ c.loop-task.task-index = omega (arith, c.loop-task-test.false, c.loop-task.auto.task-index-end) in
    c.loop-task.invariant ∙ ap (brought_rows c.args.numbers.now) (ap (λ n. take n tasks) (sym e) ∙ take-length tasks)
