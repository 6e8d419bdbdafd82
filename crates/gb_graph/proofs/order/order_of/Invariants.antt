use Rattle.std.proofs.Common.{◌≡◌, ◌<◌, ◌≤◌, ℕ, length, vec_len, [], nat_cmp}
use Rattle.std.specs.BTreeSet.{contains}
use Rattle.gb_graph.specs.Order.{rows, row, InOrder}
use Rattle.gb_graph.specs.Settled.{Keeps, ContainsFrom, missing}
use Rattle.gb_graph.proofs.order.order_of.Given as goal

abbrev pub invariant-loop : goal.invariant-loop
invariant-loop l = record {
  places : vec_len l.waiting ≡ l.index;
  empty : (k : ℕ) → row (rows l.waiting.items) k ≡ [];
}

abbrev pub invariant-loop-task : goal.invariant-loop-task
invariant-loop-task l = record {
  marks : vec_len l.exists ≡ length l.after;
  cursors : vec_len l.cursors ≡ length l.after;
  places : vec_len l.waiting ≡ length l.after;
  keeps : Keeps (rows l.after) l.exists.items (rows l.waiting.items) (contains nat_cmp l.ready) l.order.items (λ u. (l.task ≤ u) × (u < length l.after));
}

abbrev pub invariant-loop-waiter : goal.invariant-loop-waiter
invariant-loop-waiter l = record {
  marks : vec_len l.exists ≡ length l.after;
  cursors : vec_len l.cursors ≡ length l.after;
  places : vec_len l.waiting ≡ length l.after;
  keeps : Keeps (rows l.after) l.exists.items (rows l.waiting.items) (contains nat_cmp l.ready) l.order.items (ContainsFrom l.waiter-index l.waiter-items);
}

abbrev pub invariant-loop-task-2 : goal.invariant-loop-task-2
invariant-loop-task-2 l = record {
  marks : vec_len l.exists ≡ length l.after;
  cursors : vec_len l.cursors ≡ length l.after;
  places : vec_len l.waiting ≡ length l.after;
  keeps : Keeps (rows l.after) l.exists.items (rows l.waiting.items) (contains nat_cmp l.ready) l.order.items (λ _. ⊥);
  in_order : InOrder (rows l.after) l.order.items;
}

abbrev pub decreases-loop-task-2 : goal.decreases-loop-task-2
decreases-loop-task-2 l = missing l.exists.items
