use Rattle.std.proofs.Common.{◌≡◌, ◌≤◌, drop, length}
use Rattle.gb_markdown.specs.Runs.{end_of, is_space}
use Rattle.gb_markdown.proofs.runs.trimmed.Given as goal

abbrev pub invariant-loop-index : goal.invariant-loop-index
invariant-loop-index l = record {
  within : l.end ≤ length l.line;
  value : end_of is_space l.end l.index (drop l.index l.line) ≡ end_of is_space 0 0 l.line;
}
