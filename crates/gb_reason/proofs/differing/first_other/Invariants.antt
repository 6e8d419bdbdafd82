use Rattle.std.proofs.Common.{◌≡◌, drop}
use Rattle.gb_reason.specs.Reasons.{first_other}
use Rattle.gb_reason.proofs.differing.first_other.Given as goal

abbrev pub invariant-loop-action : goal.invariant-loop-action
invariant-loop-action l = first_other l.others l.actions ≡ first_other l.others (drop l.action-index l.actions)
