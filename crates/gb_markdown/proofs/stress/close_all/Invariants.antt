use Rattle.std.proofs.Common.{◌≡◌, ◌++◌, take}
use Rattle.gb_markdown.specs.Pieces.{written}
use Rattle.gb_markdown.specs.Inline.{closing}
use Rattle.gb_markdown.proofs.stress.close_all.Given as goal

abbrev pub invariant-loop-end : goal.invariant-loop-end
invariant-loop-end l = l.page.items ≡ l.initial.page.items ++ written (closing (take l.end-index l.ends))
