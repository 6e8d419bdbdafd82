use Rattle.std.proofs.Common.{take, MatchOption}
use Rattle.gb_graph.specs.Order.{rows}
use Rattle.gb_graph.specs.Conflicts.{IsLeast, IsConflictThere, IsWithin, found_by}
use Rattle.gb_graph.specs.Near.{IsLast}
use Rattle.gb_graph.proofs.least.least_conflict.Given as goal

abbrev pub invariant-loop-place : goal.invariant-loop-place
invariant-loop-place l = record {
  least : IsLeast (IsConflictThere l.search (rows l.chains) l.tasks l.outputs (take l.place l.places)) (found_by l.tasks l.places l.least);
  last : IsLast l.outputs l.places l.last;
  within : MatchOption l.least (Unit {0}) (IsWithin l.tasks l.places);
}
