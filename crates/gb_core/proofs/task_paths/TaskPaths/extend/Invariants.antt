use Rattle.std.proofs.Common.{◌≡◌, ◌++◌, List, ℕ}
use Rattle.gb_core.specs.Tasks.{with_tasks}
use Rattle.gb_core.proofs.task_paths.TaskPaths.extend.Given as goal

-- the tasks before the iterator's position have been inserted
abbrev pub invariant-loop-task : goal.invariant-loop-task
invariant-loop-task l =
    (prefix : List (List ℕ)) × (prefix ++ l.task-iterator ≡ l.more) × (l.self ≡ with_tasks l.initial.self prefix)
