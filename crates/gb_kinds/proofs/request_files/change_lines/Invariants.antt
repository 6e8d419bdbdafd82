use Rattle.std.proofs.Common.{◌≡◌, map, take}
use Rattle.gb_kinds.specs.ByFile.{change_line}
use Rattle.gb_kinds.proofs.request_files.change_lines.Given as goal

abbrev pub invariant-loop-change : goal.invariant-loop-change
invariant-loop-change l = l.lines ≡ map change_line (take l.change-index l.changes)
