use Rattle.std.proofs.Common.{◌≡◌, ◌<◌, ◌⊎◌, ℕ, true, Contains, vec_len}
use Rattle.gb_exec.specs.Starts.{mark_at, row, rows}
use Rattle.gb_exec.proofs.numbered_tasks.mark_rows.Given as goal

abbrev pub invariant-loop-row : goal.invariant-loop-row
invariant-loop-row l = record {
  len : vec_len l.marks ≡ vec_len l.fn.marks;
  kept : (task : ℕ) → mark_at l.fn.marks.items task ≡ true → mark_at l.marks.items task ≡ true;
  all : (later task : ℕ) → later < l.row-index → Contains (row (rows l.table) later) task → mark_at l.marks.items task ≡ true;
  only : (task : ℕ) → mark_at l.marks.items task ≡ true
      → (mark_at l.fn.marks.items task ≡ true) ⊎ ((later : ℕ) × Contains (row (rows l.table) later) task);
}
