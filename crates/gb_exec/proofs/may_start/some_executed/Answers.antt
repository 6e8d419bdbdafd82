use Rattle.std.proofs.Common.{arith}
use Rattle.std.proofs.lemmas.List.Elements.{Contains-get_or}
use Rattle.gb_exec.proofs.may_start.some_executed.Goals as goal

pub bounds : goal.bounds
bounds c = c.requires.known _ (Contains-get_or c.args.row.now c.loop-task.task-index 0 (omega arith))
