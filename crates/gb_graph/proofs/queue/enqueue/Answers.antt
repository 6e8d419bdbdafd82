use Rattle.std.proofs.Common.{◌≡◌, ◌++◌, ◌∷◌, [], true, false, sym, ap, ◌∙◌}
use Rattle.std.specs.BTreeSet.{contains}
use Rattle.gb_core.specs.Lists.{byte_order}
use Rattle.gb_plan.specs.Task.{has_path}
use Rattle.gb_graph.specs.Queue.{added}
use Rattle.gb_graph.proofs.Queues.{known_new, known_still, queue_shut, queue_known, queue_new, queue_goes, turned_not, not_added}
use Rattle.gb_graph.proofs.queue.enqueue.Goals as goal
use Rattle.gb_graph.proofs.queue.enqueue.Goals.{else-not-contains-via-then-not-contains+in_ok-copy+in_ok-insert+else-branch, else-not-contains-via-else-not-contains}

pub loop-path-preserved : goal.loop-path-preserved
loop-path-preserved c =
    let shut = contains byte_order c.args.excluded.now in
    let old = contains byte_order c.loop-path.known in
    let queue = c.loop-path.queue.items in
    let path = c.in-Some.path.now in
    let reported = c.loop-path.invariant.known in
    let goes = queue_goes shut queue queue c.next.new.self c.loop-path.path-iterator path (added shut c.args.queue.now.items c.args.paths.now) c.in-Some.ensures.steps c.loop-path.invariant.queue in
    elim c.else-not-contains.branch [
      | else-not-contains-via-then-not-contains+in_ok-copy+in_ok-insert+else-branch w ↦
          let key = w.in_ok-copy.field-0 in
          let known : old key ≡ true = turned_not w.in_ok-insert.field-0 (old key) w.in_ok-insert.ensures.added w.if-branch.false in
          record {
            known = λ p. ap (λ k. contains byte_order k p) w.known-is ∙ known_still old (contains byte_order w.insert.new.self) queue key path w.in_ok-copy.ensures reported w.in_ok-insert.ensures.updates.0 known p;
            queue = goes (queue_known shut queue path (sym (reported path) ∙ (ap old (sym w.in_ok-copy.ensures) ∙ known)));
          }
      | else-not-contains-via-else-not-contains w ↦ record {
        known = λ p. ap (λ k. contains byte_order k p) w.known-is ∙ reported p;
        queue = goes (queue_shut shut queue path (sym c.contains.ensures ∙ w.if-not-contains.false));
      }
    ]

pub loop-path-preserved-then-branch : goal.loop-path-preserved-then-branch
loop-path-preserved-then-branch c =
    let shut = contains byte_order c.args.excluded.now in
    let old = contains byte_order c.loop-path.known in
    let queue = c.loop-path.queue.items in
    let path = c.in-Some.path.now in
    let reported = c.loop-path.invariant.known in
    let key = c.in_ok-copy.field-0 in
    let lacks : old key ≡ false = not_added c.in_ok-insert.field-0 (old key) c.in_ok-insert.ensures.added c.if-branch.true in
    let pushed : c.push.new.self.items ≡ queue ++ path ∷ [] = c.in_ok-push.ensures.items ∙ ap (λ p. queue ++ p ∷ []) c.in_ok-copy-2.ensures in
    record {
      known = λ p. known_new old (contains byte_order c.insert.new.self) shut queue key path c.in_ok-copy.ensures reported c.in_ok-insert.ensures.updates.0 p ∙ ap (λ q. has_path q p) (sym pushed);
      queue = queue_goes shut queue c.push.new.self.items c.next.new.self c.loop-path.path-iterator path (added shut c.args.queue.now.items c.args.paths.now) c.in-Some.ensures.steps c.loop-path.invariant.queue
          (queue_new shut queue path (sym c.contains.ensures ∙ c.if-not-contains.true) (sym (reported path) ∙ (ap old (sym c.in_ok-copy.ensures) ∙ lacks)) ∙ sym pushed);
    }
