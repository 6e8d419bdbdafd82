use Rattle.std.proofs.Common.{◌≡◌, ◌++◌, ◌∷◌, [], List, length, get_or, take, map, sym, ap, ◌∙◌, arith}
use Rattle.std.proofs.Math.Seq.{take-length}
use Rattle.std.proofs.lemmas.List.{get_or-map, get_or_default}
use Rattle.std.proofs.lemmas.List.Elements.{Contains-get_or}
use Rattle.gb_plan.specs.declared.plan.Planned.{Planned}
use Rattle.gb_plan.specs.Task.{Path}
use Rattle.gb_graph.specs.Cycle.{path_at}
use Rattle.gb_graph.proofs.Selections.{map_more}
use Rattle.gb_graph.proofs.cycle.paths_of.Goals as goal

pub bounds-tasks-number : goal.bounds-tasks-number
bounds-tasks-number c = c.requires _ (Contains-get_or c.args.numbers.now c.loop-number.number-index 0 c.loop-number-test.true)

pub offset_bounds-tasks-number : goal.offset_bounds-tasks-number
offset_bounds-tasks-number c =
    let lt = c.requires _ (Contains-get_or c.args.numbers.now c.loop-number.number-index 0 c.loop-number-test.true) in
    omega (arith, lt)

pub loop-number-preserved : goal.loop-number-preserved
loop-number-preserved c =
    let tasks = c.args.tasks.now in
    let numbers = c.args.numbers.now in
    let i = c.loop-number.number-index in
    let t = get_or numbers i 0 in
    let lt = c.requires t (Contains-get_or numbers i 0 c.loop-number-test.true) in
    let path : c.in_ok-copy.field-0 ≡ path_at tasks t = c.in_ok-copy.ensures ∙ sym (get_or-map (λ (z : Planned). z.task.path) tasks t _ [] lt) in
    c.in_ok-push.ensures.ok
    ∙ ap (λ (ps : List Path). ps ++ c.in_ok-copy.field-0 ∷ []) c.loop-number.invariant
    ∙ ap (λ (p : Path). map (path_at tasks) (take i numbers) ++ p ∷ []) path
    ∙ sym (map_more (path_at tasks) numbers i t c.loop-number-test.true (get_or_default numbers i 0 t c.loop-number-test.true))

pub returns : goal.returns
returns c =
    let numbers = c.args.numbers.now in
    let e : length numbers ≡ c.loop-number.number-index = omega (arith, c.loop-number-test.false, c.loop-number.auto.number-index-end) in
    c.loop-number.invariant ∙ ap (map (path_at c.args.tasks.now)) (ap (λ n. take n numbers) (sym e) ∙ take-length numbers)
