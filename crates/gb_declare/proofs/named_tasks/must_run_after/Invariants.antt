use Rattle.std.proofs.Common.{◌≡◌, drop}
use Rattle.std.specs.List.{flat_map}
use Rattle.gb_registry.specs.References.{name_faults}
use Rattle.gb_declare.specs.Borrowed.{now_of}
use Rattle.gb_declare.specs.Joined.{must_run_after_in, tasks_in, with_named}
use Rattle.gb_declare.proofs.named_tasks.must_run_after.Given as goal

abbrev pub invariant-loop-clause : goal.invariant-loop-clause
invariant-loop-clause l = record {
  tasks : with_named l.project l.tasks (flat_map must_run_after_in (now_of (drop l.clause-index l.clauses))) ≡ tasks_in l.project (flat_map must_run_after_in (now_of l.clauses));
  faults : flat_map (name_faults l.project) (flat_map must_run_after_in (now_of l.clauses)) ≡ flat_map (name_faults l.project) (flat_map must_run_after_in (now_of (drop l.clause-index l.clauses)));
}
