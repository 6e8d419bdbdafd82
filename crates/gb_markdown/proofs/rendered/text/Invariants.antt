use Rattle.std.proofs.Common.{◌≡◌, ◌++◌, take}
use Rattle.gb_markdown.specs.Pieces.{escaped}
use Rattle.gb_markdown.proofs.rendered.text.Given as goal

abbrev pub invariant-loop-byte : goal.invariant-loop-byte
invariant-loop-byte l = l.page.items ≡ l.initial.page.items ++ escaped (take l.byte-index l.text)
