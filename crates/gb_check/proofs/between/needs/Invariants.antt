use Rattle.std.proofs.Common.{◌≡◌}
use Rattle.gb_plan.specs.Task.{has_path}
use Rattle.gb_check.proofs.between.needs.Given as goal

abbrev pub invariant-loop-other : goal.invariant-loop-other
invariant-loop-other l = has_path l.paths l.path ≡ has_path l.other-iterator l.path
