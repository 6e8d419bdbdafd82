use Rattle.std.proofs.Common.{◌≡◌, drop}
use Rattle.gb_lines.specs.Lines.{unescaped}
use Rattle.gb_lines.proofs.Escapes.{pending, prefixed}
use Rattle.gb_lines.proofs.line.unescaped.Given as goal

abbrev pub invariant-loop-byte : goal.invariant-loop-byte
invariant-loop-byte l = prefixed l.bytes.items (unescaped (pending l.is_escape (drop l.byte-index l.text))) ≡ unescaped l.fn.text
