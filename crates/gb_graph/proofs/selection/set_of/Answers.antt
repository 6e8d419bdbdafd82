use Rattle.std.proofs.Common.{◌≡◌, ◌||◌, List, length, take, sym, ap, ◌∙◌, arith}
use Rattle.std.proofs.Math.Seq.{take-length}
use Rattle.gb_plan.specs.Task.{Path, has_path}
use Rattle.gb_graph.specs.Words.{joined_paths}
use Rattle.gb_graph.proofs.Queues.{has_append}
use Rattle.gb_graph.proofs.Selections.{flat_more}
use Rattle.gb_graph.proofs.selection.set_of.Goals as goal

pub loop-paths-preserved : goal.loop-paths-preserved
loop-paths-preserved c = λ p.
    let lists = c.args.lists.now in
    let i = c.loop-paths.paths-index in
    let paths = c.paths-item.result in
    c.in_ok-add_paths.ensures p
    ∙ ap (λ b. b || has_path paths p) (c.loop-paths.invariant p)
    ∙ sym (has_append (joined_paths (take i lists)) paths p)
    ∙ ap (λ ps. has_path ps p) (sym (flat_more (λ (ps : List Path). ps) lists i paths c.loop-paths-test.true c.paths-item.is))

pub returns : goal.returns
returns c = λ p.
    let e : length c.args.lists.now ≡ c.loop-paths.paths-index = omega (arith, c.loop-paths-test.false, c.loop-paths.auto.paths-index-end) in
    c.loop-paths.invariant p ∙ ap (λ ls. has_path (joined_paths ls) p) (ap (λ n. take n c.args.lists.now) (sym e) ∙ take-length c.args.lists.now)
