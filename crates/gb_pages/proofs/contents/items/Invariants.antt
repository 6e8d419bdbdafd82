use Rattle.std.proofs.Common.{◌≡◌, ◌++◌}
use Rattle.gb_pages.specs.Contents.{items_of}
use Rattle.gb_pages.proofs.contents.items.Given as goal

abbrev pub invariant-loop-part : goal.invariant-loop-part
invariant-loop-part l =
    l.list.items ++ items_of l.deep l.part-iterator
    ≡ l.initial.list.items ++ items_of l.initial.deep l.initial.part-iterator
