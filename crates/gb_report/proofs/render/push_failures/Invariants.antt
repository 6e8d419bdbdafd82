use Rattle.std.proofs.Common.{◌≡◌, ◌++◌, string_bytes, take}
use Rattle.std.specs.List.{flat_map}
use Rattle.gb_report.specs.Report.{failure_text}
use Rattle.gb_report.proofs.render.push_failures.Given as goal

abbrev pub invariant-loop-task : goal.invariant-loop-task
invariant-loop-task l = string_bytes l.text ≡ string_bytes l.fn.text ++ flat_map (λ task. failure_text task.path task.outcome) (take l.task-index l.tasks)
