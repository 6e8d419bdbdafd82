use Rattle.std.proofs.Common.{◌≡◌, ◌<◌, ◌≤◌, ◌+◌, ℕ, true, length, Contains, vec_len}
use Rattle.gb_exec.specs.Starts.{Spreads, mark_at, row, rows}
use Rattle.gb_exec.proofs.may_start.spread.Given as goal

abbrev pub invariant-loop-done : goal.invariant-loop-done
invariant-loop-done l = record {
  len : vec_len l.marks ≡ vec_len l.fn.marks;
  sound : (task : ℕ) → mark_at l.marks.items task ≡ true → Spreads (rows l.needs) l.fn.marks.items task;
  kept : (task : ℕ) → mark_at l.fn.marks.items task ≡ true → mark_at l.marks.items task ≡ true;
  closed : (later task : ℕ) → later < length l.needs → length l.needs ≤ later + l.done → mark_at l.marks.items later ≡ true
      → Contains (row (rows l.needs) later) task → mark_at l.marks.items task ≡ true;
}
