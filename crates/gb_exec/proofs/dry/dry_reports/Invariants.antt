use Rattle.std.proofs.Common.{◌≡◌, take}
use Rattle.gb_semantics.specs.Execution.{dry_reports}
use Rattle.gb_exec.proofs.dry.dry_reports.Given as goal

abbrev pub invariant-loop-planned : goal.invariant-loop-planned
invariant-loop-planned l = l.reports.items ≡ dry_reports (take l.planned-index l.tasks)
