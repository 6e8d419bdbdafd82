use Rattle.std.proofs.Common.{◌≡◌, List, length, take, sym, ap, ◌∙◌, arith}
use Rattle.std.proofs.Math.Seq.{take-length}
use Rattle.std.specs.BTreeSet.{contains}
use Rattle.gb_core.specs.Lists.{byte_order}
use Rattle.gb_plan.specs.Task.{Path}
use Rattle.gb_graph.specs.Queue.{added}
use Rattle.gb_graph.specs.Words.{joined_paths}
use Rattle.gb_graph.proofs.Queues.{added_append}
use Rattle.gb_graph.proofs.Selections.{flat_more}
use Rattle.gb_graph.proofs.selection.enqueue_all.Goals as goal

pub loop-paths-preserved : goal.loop-paths-preserved
loop-paths-preserved c =
    let shut = contains byte_order c.args.excluded.now in
    let begin = c.args.queue.now.items in
    let lists = c.args.lists.now in
    let i = c.loop-paths.paths-index in
    let paths = c.paths-item.result in
    record {
      known = c.in_ok-enqueue.ensures.known;
      queue =
          c.in_ok-enqueue.ensures.queue
          ∙ ap (λ q. added shut q paths) c.loop-paths.invariant.queue
          ∙ sym (added_append shut begin (joined_paths (take i lists)) paths)
          ∙ ap (added shut begin) (sym (flat_more (λ (ps : List Path). ps) lists i paths c.loop-paths-test.true c.paths-item.is));
    }

pub returns : goal.returns
returns c =
    let e : length c.args.lists.now ≡ c.loop-paths.paths-index = omega (arith, c.loop-paths-test.false, c.loop-paths.auto.paths-index-end) in
    record {
      known = c.loop-paths.invariant.known;
      queue = c.loop-paths.invariant.queue
          ∙ ap (λ ls. added (contains byte_order c.args.excluded.now) c.args.queue.now.items (joined_paths ls)) (ap (λ n. take n c.args.lists.now) (sym e) ∙ take-length c.args.lists.now);
    }
