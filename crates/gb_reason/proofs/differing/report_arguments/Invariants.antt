use Rattle.std.proofs.Common.{◌≡◌, ◌+◌, ◌++◌, drop, length}
use Rattle.gb_reason.specs.Reasons.{of_arguments}
use Rattle.gb_reason.proofs.differing.report_arguments.Given as goal

abbrev pub invariant-loop-at : goal.invariant-loop-at
invariant-loop-at l =
    (length l.old ≡ length l.new)
    × (l.reasons.items ++ of_arguments l.kind (l.at + 1) (drop l.at l.old) (drop l.at l.new)
    ≡ l.initial.reasons.items ++ of_arguments l.kind 1 l.old l.new)
