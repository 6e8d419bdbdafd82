use Rattle.std.proofs.Common.{◌≡◌, ◌+◌, ◌∷◌, [], ℕ, map, drop, ap, sym, ◌∙◌, arith, List}
use Rattle.std.proofs.lemmas.List.{drop_all}
use Rattle.gb_folder.specs.Files.{Place}
use Rattle.gb_plan.specs.declared.task.Output.{Output}
use Rattle.gb_graph.specs.Places.{with_places}
use Rattle.gb_graph.proofs.RefusalRows.{drop_next, placed_on}
use Rattle.gb_graph.proofs.places.add_outputs.Goals as goal

abbrev pairs : ℕ → List Output → List (ℕ × Place)
pairs task outputs = map (λ (place : Place). (task, place)) (map (λ (output : Output). output.place) outputs)

pub loop-output-preserved : goal.loop-output-preserved
loop-output-preserved c =
    let i = c.loop-output.output-index in
    let outputs = c.args.outputs.now in
    let x = c.output-item.result in
    let t = c.args.task in
    placed_on c.loop-output.row.items c.add.new.row.items ((t, x.place) ∷ []) (pairs t (drop (i + 1) outputs)) (pairs t (drop i outputs))
    (ap (pairs t) (drop_next outputs i x c.loop-output-test.true c.output-item.is)) c.in_ok-add.ensures ∙ c.loop-output.invariant

pub returns : goal.returns
returns c =
    let none : drop c.loop-output.output-index c.args.outputs.now ≡ [] = drop_all c.loop-output.output-index c.args.outputs.now (omega (arith, c.loop-output-test.false)) in
    ap (λ rest. with_places c.loop-output.row.items (pairs c.args.task rest)) (sym none) ∙ c.loop-output.invariant
