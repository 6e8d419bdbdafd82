use Rattle.std.proofs.Common.{◌≡◌, ◌++◌, drop}
use Rattle.gb_declare.specs.Borrowed.{now_of}
use Rattle.gb_project.proofs.task_blocks.push_clauses.Given as goal

abbrev pub invariant-loop-clause : goal.invariant-loop-clause
invariant-loop-clause l =
    now_of l.to.items ++ drop l.clause-index l.clauses ≡ now_of l.initial.to.items ++ l.clauses
