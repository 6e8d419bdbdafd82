use Rattle.std.proofs.Common.{◌≡◌, ◌++◌, false, drop}
use Rattle.gb_markdown.specs.Targets.{unescaped}
use Rattle.gb_markdown.proofs.target.unescaped.Given as goal

abbrev pub invariant-loop-byte : goal.invariant-loop-byte
invariant-loop-byte l = l.made.items ++ unescaped l.hidden (drop l.byte-index l.line) ≡ unescaped false l.line
