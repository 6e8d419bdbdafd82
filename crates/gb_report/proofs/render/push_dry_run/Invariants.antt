use Rattle.std.proofs.Common.{◌≡◌, ◌++◌, string_bytes, take, codes}
use Rattle.std.specs.List.{flat_map}
use Rattle.gb_report.specs.Report.{line}
use Rattle.gb_report.proofs.render.push_dry_run.Given as goal

abbrev pub invariant-loop-task : goal.invariant-loop-task
invariant-loop-task l = string_bytes l.text ≡ string_bytes l.fn.text ++ flat_map (λ task. line (task.path ++ codes " SKIPPED")) (take l.task-index l.tasks)
