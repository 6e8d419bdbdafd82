use Rattle.std.proofs.Common.{◌≡◌, ◌+◌, ◌∷◌, [], ℕ, map, drop, ap, sym, ◌∙◌, arith, List}
use Rattle.std.proofs.lemmas.List.{drop_all}
use Rattle.gb_folder.specs.Files.{Place}
use Rattle.gb_graph.specs.Places.{with_places}
use Rattle.gb_graph.proofs.RefusalRows.{drop_next, placed_on}
use Rattle.gb_graph.proofs.places.add_roots.Goals as goal

abbrev pairs : ℕ → List Place → List (ℕ × Place)
pairs task roots = map (λ (place : Place). (task, place)) roots

pub loop-root-preserved : goal.loop-root-preserved
loop-root-preserved c =
    let i = c.loop-root.root-index in
    let roots = c.args.roots.now in
    let x = c.root-item.result in
    let t = c.args.task in
    placed_on c.loop-root.row.items c.add.new.row.items ((t, x) ∷ []) (pairs t (drop (i + 1) roots)) (pairs t (drop i roots))
    (ap (pairs t) (drop_next roots i x c.loop-root-test.true c.root-item.is)) c.in_ok-add.ensures ∙ c.loop-root.invariant

pub returns : goal.returns
returns c =
    let none : drop c.loop-root.root-index c.args.roots.now ≡ [] = drop_all c.loop-root.root-index c.args.roots.now (omega (arith, c.loop-root-test.false)) in
    ap (λ rest. with_places c.loop-root.row.items (pairs c.args.task rest)) (sym none) ∙ c.loop-root.invariant
