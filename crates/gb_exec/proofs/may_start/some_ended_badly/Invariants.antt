use Rattle.std.proofs.Common.{◌≡◌, false, take}
use Rattle.std.specs.List.{list_any}
use Rattle.gb_exec.specs.Starts.{ended_badly, ending_in}
use Rattle.gb_exec.proofs.may_start.some_ended_badly.Given as goal

abbrev pub invariant-loop-task : goal.invariant-loop-task
invariant-loop-task l = list_any (λ task. ended_badly (ending_in l.endings task)) (take l.task-index l.row) ≡ false
