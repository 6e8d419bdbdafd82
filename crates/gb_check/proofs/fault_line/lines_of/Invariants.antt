use Rattle.std.proofs.Common.{◌≡◌, take}
use Rattle.std.specs.List.{flat_map}
use Rattle.gb_check.specs.Marks.{line_if}
use Rattle.gb_check.proofs.fault_line.lines_of.Given as goal

abbrev pub invariant-loop-mark : goal.invariant-loop-mark
invariant-loop-mark l = l.lines.items ≡ flat_map (line_if l.path (l.kind, l.text)) (take l.mark-index l.marks)
