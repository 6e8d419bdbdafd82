use Rattle.std.proofs.Common.{◌≡◌, false, take}
use Rattle.std.specs.List.{list_any}
use Rattle.gb_exec.specs.Starts.{has_executed, ending_in}
use Rattle.gb_exec.proofs.may_start.some_executed.Given as goal

abbrev pub invariant-loop-task : goal.invariant-loop-task
invariant-loop-task l = list_any (λ task. has_executed (ending_in l.endings task)) (take l.task-index l.row) ≡ false
