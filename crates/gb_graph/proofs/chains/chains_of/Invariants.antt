use Rattle.std.proofs.Common.{◌≡◌, ◌<◌, ◌≤◌, ◌⊎◌, ℕ, length, get_or, vec_len, take, Contains}
use Rattle.gb_graph.specs.Order.{rows, row}
use Rattle.gb_graph.specs.Chains.{IsAfter, bit_in}
use Rattle.gb_graph.proofs.chains.chains_of.Given as goal

abbrev pub invariant-loop : goal.invariant-loop
invariant-loop l = record {
  places : vec_len l.found ≡ l.index;
  widths : (t : ℕ) → t < l.index → length (row (rows l.found.items) t) ≤ l.words;
}

abbrev pub invariant-loop-task : goal.invariant-loop-task
invariant-loop-task l = record {
  places : vec_len l.found ≡ length l.after;
  widths : (t : ℕ) → t < length l.after → length (row (rows l.found.items) t) ≤ l.words;
  sound : (t p : ℕ) → Contains (take l.task-index l.order) t → bit_in (row (rows l.found.items) t) p ≡ 1 → IsAfter (rows l.after) t p;
  complete : (t p : ℕ) → Contains (take l.task-index l.order) t → IsAfter (rows l.after) t p → bit_in (row (rows l.found.items) t) p ≡ 1;
}

abbrev pub invariant-loop-before : goal.invariant-loop-before
invariant-loop-before l = record {
  most : vec_len l.row ≤ l.words;
  wide : (before : ℕ) → Contains l.earlier before → vec_len l.row ≡ l.words;
  sound : (p : ℕ) → bit_in l.row.items p ≡ 1 → IsAfter (rows l.after) l.task p;
  complete : (j p : ℕ) → j < l.before-index → (p ≡ get_or l.earlier j 0) ⊎ IsAfter (rows l.after) (get_or l.earlier j 0) p → bit_in l.row.items p ≡ 1;
}
