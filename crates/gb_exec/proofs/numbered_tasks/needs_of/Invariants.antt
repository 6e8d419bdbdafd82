use Rattle.std.proofs.Common.{◌≡◌, map, take}
use Rattle.gb_graph.specs.Ranked.{numbers_in}
use Rattle.gb_exec.specs.Starts.{rows}
use Rattle.gb_exec.proofs.numbered_tasks.needs_of.Given as goal

abbrev pub invariant-loop-planned : goal.invariant-loop-planned
invariant-loop-planned l = rows l.table.items ≡ map (λ planned. numbers_in l.numbers planned.task.needs) (take l.planned-index l.plan)
