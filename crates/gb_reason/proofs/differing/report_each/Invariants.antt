use Rattle.std.proofs.Common.{◌≡◌, ◌++◌, drop, length}
use Rattle.std.specs.List.{flat_map, zip}
use Rattle.gb_reason.proofs.differing.report_each.Given as goal

abbrev pub invariant-loop-at : goal.invariant-loop-at
invariant-loop-at g l =
    (length l.old ≡ length l.new)
    × (l.reasons.items ++ flat_map g.T.Part.reported (zip (drop l.at l.old) (drop l.at l.new))
    ≡ l.initial.reasons.items ++ flat_map g.T.Part.reported (zip l.old l.new))
