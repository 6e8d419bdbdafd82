use Rattle.std.proofs.Common.{◌≡◌, Ok}
use Rattle.gb_pages.specs.Layouts.{before, filled, value_for}
use Rattle.gb_pages.proofs.layout.fill.Given as goal

abbrev pub invariant-loop-part : goal.invariant-loop-part
invariant-loop-part l =
    before (Ok l.made.items)
    (filled (value_for l.page.previous.now l.page.next.now l.page.path.now l.page.text.now l.page.html.now) l.is_after l.part-iterator)
    ≡ before (Ok l.initial.made.items)
    (filled (value_for l.page.previous.now l.page.next.now l.page.path.now l.page.text.now l.page.html.now) l.initial.is_after
    l.initial.part-iterator)
