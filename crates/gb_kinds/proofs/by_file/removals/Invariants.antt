use Rattle.std.proofs.Common.{◌≡◌, take}
use Rattle.std.specs.List.{flat_map}
use Rattle.gb_kinds.specs.ByFile.{removes_for}
use Rattle.gb_kinds.proofs.by_file.removals.Given as goal

abbrev pub invariant-loop-change : goal.invariant-loop-change
invariant-loop-change l = l.removes ≡ flat_map removes_for (take l.change-index l.changes)
