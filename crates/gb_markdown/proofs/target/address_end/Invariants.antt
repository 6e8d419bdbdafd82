use Rattle.std.proofs.Common.{◌≡◌, ◌≤◌, false, drop}
use Rattle.gb_markdown.specs.Targets.{address_end}
use Rattle.gb_markdown.proofs.target.address_end.Given as goal

abbrev pub invariant-loop-index : goal.invariant-loop-index
invariant-loop-index l = record {
  low : l.deep ≤ 3;
  value : address_end l.hidden l.deep l.index (drop l.index l.line) ≡ address_end false 0 0 l.line;
}
