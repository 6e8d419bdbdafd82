use Rattle.std.proofs.Common.{◌≡◌, ◌++◌, map, take}
use Rattle.gb_reason.specs.declared.reason.Reason.TheVariants as reasons
use Rattle.gb_reason.proofs.differing.OutputRecordPart.report.Given as goal

abbrev pub invariant-loop-change : goal.invariant-loop-change
invariant-loop-change l =
    l.reasons.items ≡ l.initial.reasons.items ++ map (reasons.Output l.self.place) (take l.change-index l.change-items)
