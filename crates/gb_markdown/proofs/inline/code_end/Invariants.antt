use Rattle.std.proofs.Common.{◌≡◌, ◌≤◌, drop}
use Rattle.gb_markdown.specs.Inline.{code_end}
use Rattle.gb_markdown.proofs.inline.code_end.Given as goal

abbrev pub invariant-loop-index : goal.invariant-loop-index
invariant-loop-index l = record {
  low : l.earlier ≤ l.index;
  value : code_end l.count l.earlier l.index (drop l.index l.rest) ≡ code_end l.count 0 0 l.rest;
}
