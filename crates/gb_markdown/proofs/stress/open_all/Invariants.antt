use Rattle.std.proofs.Common.{◌≡◌, ◌++◌}
use Rattle.std.specs.Slice.Iter.{iter_rest}
use Rattle.gb_markdown.specs.Pieces.{written}
use Rattle.gb_markdown.specs.Inline.{opening}
use Rattle.gb_markdown.proofs.stress.open_all.Given as goal

abbrev pub invariant-loop-end : goal.invariant-loop-end
invariant-loop-end l =
    l.page.items ++ written (opening (iter_rest l.end-iterator.iter))
    ≡ l.initial.page.items ++ written (opening l.ends)
