use Rattle.std.proofs.Common.{◌≡◌, ◌++◌, ◌∷◌, [], ℕ, Vec, length, take, map, sym, ap, ◌∙◌, arith}
use Rattle.std.proofs.Math.Seq.{take-length}
use Rattle.std.proofs.lemmas.List.{map-append}
use Rattle.std.specs.Global.{Global}
use Rattle.gb_graph.specs.Order.{rows}
use Rattle.gb_graph.specs.Ranked.{numbers_in}
use Rattle.gb_graph.proofs.Selections.{map_more}
use Rattle.gb_graph.proofs.worded.starts_of.Goals as goal

pub loop-paths-preserved : goal.loop-paths-preserved
loop-paths-preserved c =
    let m = c.args.numbers.now in
    let lists = c.args.lists.now in
    let i = c.loop-paths.paths-index in
    let paths = c.paths-item.result in
    let starts = c.loop-paths.starts.items in
    let row : c.add_numbers.new.row.items ≡ numbers_in m paths = c.in_ok-add_numbers.ensures ∙ ap (λ r. r ++ numbers_in m paths) c.new-row.ensures.items in
    ap rows c.in_ok-push.ensures.items
    ∙ map-append (λ (v : Vec ℕ Global). v.items) starts (c.add_numbers.new.row ∷ [])
    ∙ ap (λ r. rows starts ++ r ∷ []) row
    ∙ ap (λ rs. rs ++ numbers_in m paths ∷ []) c.loop-paths.invariant
    ∙ sym (map_more (numbers_in m) lists i paths c.loop-paths-test.true c.paths-item.is)

pub returns : goal.returns
returns c =
    let lists = c.args.lists.now in
    let e : length lists ≡ c.loop-paths.paths-index = omega (arith, c.loop-paths-test.false, c.loop-paths.auto.paths-index-end) in
    c.loop-paths.invariant ∙ ap (map (numbers_in c.args.numbers.now)) (ap (λ n. take n lists) (sym e) ∙ take-length lists)
