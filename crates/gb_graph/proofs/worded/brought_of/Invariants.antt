use Rattle.std.proofs.Common.{◌≡◌, take}
use Rattle.gb_graph.specs.Order.{rows}
use Rattle.gb_graph.specs.Words.{brought_rows}
use Rattle.gb_graph.proofs.worded.brought_of.Given as goal

abbrev pub invariant-loop-task : goal.invariant-loop-task
invariant-loop-task l = rows l.table.items ≡ brought_rows l.numbers (take l.task-index l.tasks)
