use Rattle.std.proofs.Common.{◌≡◌, ◌≤◌, drop}
use Rattle.gb_markdown.specs.Lines.{is_rule}
use Rattle.gb_markdown.proofs.line_parsing.is_rule.Given as goal

abbrev pub invariant-loop-byte : goal.invariant-loop-byte
invariant-loop-byte l = record {
  within : l.earlier ≤ l.byte-index;
  value : is_rule l.sign l.earlier (drop l.byte-index l.line) ≡ is_rule l.sign 0 l.line;
}
