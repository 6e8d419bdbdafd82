use Rattle.std.proofs.Common.{◌≡◌, false, drop}
use Rattle.gb_markdown.specs.Tables.{is_divider}
use Rattle.gb_markdown.proofs.pipe_table.is_divider.Given as goal

abbrev pub invariant-loop-byte : goal.invariant-loop-byte
invariant-loop-byte l = is_divider l.dash l.bar (drop l.byte-index l.line) ≡ is_divider false false l.line
