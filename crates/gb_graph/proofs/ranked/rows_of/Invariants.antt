use Rattle.std.proofs.Common.{◌≡◌, ◌↔◌, ℕ, [], take, vec_len, Contains}
use Rattle.gb_graph.specs.Order.{rows, row}
use Rattle.gb_graph.proofs.ranked.rows_of.Given as goal

abbrev pub invariant-loop : goal.invariant-loop
invariant-loop l = record {
  each : vec_len l.after ≡ l.counter;
  empty : (k : ℕ) → row (rows l.after.items) k ≡ [];
}

abbrev pub invariant-loop-task : goal.invariant-loop-task
invariant-loop-task l = record {
  each : vec_len l.after ≡ l.count;
  reported : (task before : ℕ) → Contains (row (rows l.after.items) task) before ↔ Contains (take l.task-index l.edges) (task, before);
}
