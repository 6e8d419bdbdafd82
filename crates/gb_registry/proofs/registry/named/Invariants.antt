use Rattle.std.proofs.Common.{◌≡◌, [], drop, filter, bytes_eq}
use Rattle.gb_core.specs.Path.{task_name}
use Rattle.gb_core.specs.Tasks.{with_tasks}
use Rattle.gb_registry.proofs.registry.named.Given as goal

abbrev pub invariant-loop-task : goal.invariant-loop-task
invariant-loop-task l =
    with_tasks [] (filter (λ path. bytes_eq (task_name path) l.name) l.tasks)
    ≡ with_tasks l.found (filter (λ path. bytes_eq (task_name path) l.name) (drop l.task-index l.tasks))
