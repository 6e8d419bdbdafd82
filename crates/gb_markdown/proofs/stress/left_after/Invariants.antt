use Rattle.std.proofs.Common.{◌≡◌, ◌≤◌, drop}
use Rattle.gb_markdown.specs.Inline.{left_after}
use Rattle.gb_markdown.proofs.stress.left_after.Given as goal

abbrev pub invariant-loop-end : goal.invariant-loop-end
invariant-loop-end l = record {
  value : left_after l.left (drop l.end-index l.ends) ≡ left_after l.count l.ends;
  within : l.left ≤ l.count;
}
