use Rattle.std.proofs.Common.{◌≡◌, ◌+◌, [], ℕ, map, drop, ap, sym, ◌∙◌, arith, List}
use Rattle.std.specs.List.{flat_map}
use Rattle.std.proofs.lemmas.List.{drop_all, map-append}
use Rattle.gb_folder.specs.Files.{Place}
use Rattle.gb_plan.specs.declared.task.FileProperty.{FileProperty}
use Rattle.gb_graph.specs.Places.{with_places}
use Rattle.gb_graph.proofs.RefusalRows.{drop_next, placed_on}
use Rattle.gb_graph.proofs.places.add_files.Goals as goal

abbrev roots : List FileProperty → List Place
roots files = flat_map (λ (property : FileProperty). property.roots) files

abbrev pairs : ℕ → List Place → List (ℕ × Place)
pairs task places = map (λ (place : Place). (task, place)) places

pub loop-property-preserved : goal.loop-property-preserved
loop-property-preserved c =
    let i = c.loop-property.property-index in
    let files = c.args.files.now in
    let x = c.property-item.result in
    let t = c.args.task in
    placed_on c.loop-property.row.items c.add_roots.new.row.items (pairs t x.roots) (pairs t (roots (drop (i + 1) files))) (pairs t (roots (drop i files)))
    (ap (λ fs. pairs t (roots fs)) (drop_next files i x c.loop-property-test.true c.property-item.is) ∙ map-append (λ (place : Place). (t, place)) x.roots (roots (drop (i + 1) files)))
    (c.in_ok-add_roots.ensures ∙ ap (λ rs. with_places c.loop-property.row.items (pairs t rs)) c.as_slice.ensures) ∙ c.loop-property.invariant

pub returns : goal.returns
returns c =
    let none : drop c.loop-property.property-index c.args.files.now ≡ [] = drop_all c.loop-property.property-index c.args.files.now (omega (arith, c.loop-property-test.false)) in
    ap (λ rest. with_places c.loop-property.row.items (pairs c.args.task (roots rest))) (sym none) ∙ c.loop-property.invariant
