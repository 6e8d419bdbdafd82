use Rattle.std.proofs.Common.{◌≡◌}
use Rattle.gb_pages.specs.Links.{dead_at, dead_parts}
use Rattle.gb_pages.proofs.links.dead_by.Given as goal

abbrev pub invariant-loop-part : goal.invariant-loop-part
invariant-loop-part l =
    dead_parts (dead_at l.site.files.now l.site.page.now l.site.html.now l.sign) l.is_after l.part-iterator
    ≡ dead_parts (dead_at l.site.files.now l.site.page.now l.site.html.now l.sign) l.initial.is_after
    l.initial.part-iterator
