use Rattle.std.proofs.Common.{◌≡◌, take, vec_len}
use Rattle.gb_exec.proofs.may_start.copy_marks.Given as goal

abbrev pub invariant-loop-at : goal.invariant-loop-at
invariant-loop-at l = record {
  len : vec_len l.copied ≡ vec_len l.fn.copied;
  same : take l.at l.copied.items ≡ take l.at l.marks;
}
