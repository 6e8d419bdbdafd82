use Rattle.std.proofs.Common.{◌≡◌, drop}
use Rattle.gb_markdown.specs.Lines.{has}
use Rattle.gb_markdown.proofs.line_parsing.has.Given as goal

abbrev pub invariant-loop-byte : goal.invariant-loop-byte
invariant-loop-byte l = has l.sign (drop l.byte-index l.line) ≡ has l.sign l.line
