use Rattle.std.proofs.Common.{◌≡◌, ◌+◌, [], ℕ, List, map, drop, get_or, ap, sym, ◌∙◌, arith}
use Rattle.std.proofs.lemmas.List.{drop_all}
use Rattle.gb_folder.specs.Files.{Place}
use Rattle.gb_plan.specs.declared.task.Output.{Output}
use Rattle.gb_plan.specs.Task.{output_places}
use Rattle.gb_graph.specs.Places.{places_from, with_places}
use Rattle.gb_graph.proofs.RefusalRows.{drop_next, placed_on}
use Rattle.gb_graph.proofs.places.outputs_of.Goals as goal

abbrev pairs_of : ℕ → List Output → List (ℕ × Place)
pairs_of i outputs = map (λ (place : Place). (i, place)) (map (λ (output : Output). output.place) outputs)

pub loop-task-preserved : goal.loop-task-preserved
loop-task-preserved c =
    let i = c.loop-task.task in
    let tasks = c.args.tasks.now in
    let d = c.index-tasks-task.result in
    let x = get_or tasks i d in
    placed_on c.loop-task.row.items c.add_outputs.new.row.items (map (λ (place : Place). (i, place)) (output_places x.task)) (places_from output_places (i + 1) (drop (i + 1) tasks)) (places_from output_places i (drop i tasks))
    (ap (places_from output_places i) (drop_next tasks i x c.loop-task-test.true (ap (get_or tasks i) c.index-tasks-task.is)))
    (c.in_ok-add_outputs.ensures ∙ ap (λ xs. with_places c.loop-task.row.items (pairs_of i xs)) c.as_slice.ensures) ∙ c.loop-task.invariant

pub returns : goal.returns
returns c =
    let n = c.loop-task.task in
    let tasks = c.args.tasks.now in
    let none : drop n tasks ≡ [] = drop_all n tasks (omega (arith, c.loop-task-test.false)) in
    ap (λ rest. with_places c.loop-task.row.items (places_from output_places n rest)) (sym none) ∙ c.loop-task.invariant
