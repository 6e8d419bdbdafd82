use Rattle.std.proofs.Common.{◌≡◌, drop}
use Rattle.gb_markdown.specs.References.{is_same}
use Rattle.gb_markdown.proofs.references.is_same.Given as goal

abbrev pub invariant-loop-byte : goal.invariant-loop-byte
invariant-loop-byte l = is_same (drop l.byte-index l.label) l.rest ≡ is_same l.label l.other
