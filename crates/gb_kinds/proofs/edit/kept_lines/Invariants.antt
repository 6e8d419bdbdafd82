use Rattle.std.proofs.Common.{◌≡◌, ◌++◌}
use Rattle.std.specs.List.{concat, filter}
use Rattle.gb_kinds.specs.Contents.{occurs}
use Rattle.gb_kinds.proofs.edit.kept_lines.Given as goal

abbrev pub invariant-loop-line : goal.invariant-loop-line
invariant-loop-line l = l.kept.items ++ concat (filter (occurs l.text) l.line-iterator) ≡ concat (filter (occurs l.text) l.initial.line-iterator)
