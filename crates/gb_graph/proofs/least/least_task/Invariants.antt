use Rattle.std.proofs.Common.{◌≡◌, ◌<◌, take, [], length, MatchOption}
use Rattle.gb_graph.specs.Conflicts.{IsLeastTask}
use Rattle.gb_graph.proofs.least.least_task.Given as goal

abbrev pub invariant-loop-number : goal.invariant-loop-number
invariant-loop-number l = record {
  reported : MatchOption l.least (take l.number-index l.numbers ≡ []) (IsLeastTask l.tasks (take l.number-index l.numbers));
  known : MatchOption l.least (Unit {0}) (λ number. number < length l.tasks);
}
