use Rattle.std.proofs.Common.{◌≡◌, length, take}
use Rattle.gb_graph.specs.Reach.{IsMarked}
use Rattle.gb_graph.proofs.reach.mark_all.Given as goal

abbrev pub invariant-loop-task : goal.invariant-loop-task
invariant-loop-task l = record {
  each : length l.words ≡ length l.exists;
  marked : IsMarked l.initial.exists l.exists l.initial.words l.words l.initial.fresh.items l.fresh.items (take l.task-index l.tasks) l.word;
}
