use Rattle.std.proofs.Common.{rules, refl}
use Rattle.std.proofs.Output.{has_written_append, has_written_of_eq}
use Rattle.gb_report.proofs.Row.{one_more, whole_row}
use Rattle.gb_report.proofs.fault.TasksDisplay.fmt.Goals as goal

pub loop-task-preserved : goal.loop-task-preserved
loop-task-preserved g c plain =
    let prefix = c.loop-task.invariant plain in
    has_written_of_eq _ _ _ _ _ (one_more c.in-Some.others.now c.loop-task.task-index c.task-item.result (search rules) (search rules))
    (has_written_append _ _ _ _ _ _ prefix (c.in_ok-write-2.ensures.writes prefix.plain refl))

pub returns-clause-writes : goal.returns-clause-writes
returns-clause-writes g c plain is =
    let first = c.in_ok-write.ensures.writes plain refl in
    has_written_of_eq _ _ _ _ _ (whole_row c.args.self.now.tasks.now c.in-Some.first.now c.in-Some.others.now c.loop-task.task-index (search rules) (search rules))
    (has_written_append _ _ _ _ _ _ first (c.loop-task.invariant first.plain))
