use Rattle.std.proofs.Common.{◌≡◌, ◌<◌, ◌⊎◌, ℕ, true, Contains, vec_len, get_or}
use Rattle.gb_exec.specs.Starts.{mark_at}
use Rattle.gb_exec.proofs.may_start.mark_all.Given as goal

abbrev pub invariant-loop-task : goal.invariant-loop-task
invariant-loop-task l = record {
  len : vec_len l.marks ≡ vec_len l.fn.marks;
  kept : (task : ℕ) → mark_at l.fn.marks.items task ≡ true → mark_at l.marks.items task ≡ true;
  all : (k : ℕ) → k < l.task-index → mark_at l.marks.items (get_or l.row k 0) ≡ true;
  only : (task : ℕ) → mark_at l.marks.items task ≡ true → (mark_at l.fn.marks.items task ≡ true) ⊎ Contains l.row task;
}
