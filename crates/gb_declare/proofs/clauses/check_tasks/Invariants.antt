use Rattle.std.proofs.Common.{◌≡◌, drop}
use Rattle.std.specs.List.{flat_map}
use Rattle.std.specs.Option.{option_copied}
use Rattle.gb_registry.specs.Wrong.{task_faults_in}
use Rattle.gb_declare.proofs.clauses.check_tasks.Given as goal

abbrev pub invariant-loop-text : goal.invariant-loop-text
invariant-loop-text g l =
    flat_map (task_faults_in (option_copied l.scope.names) l.scope.project.now) l.texts
    ≡ flat_map (task_faults_in (option_copied l.scope.names) l.scope.project.now) (drop l.text-index l.text-items)
