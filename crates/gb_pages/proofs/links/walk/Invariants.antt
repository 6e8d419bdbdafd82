use Rattle.std.proofs.Common.{◌≡◌}
use Rattle.gb_pages.specs.Links.{walk}
use Rattle.gb_pages.proofs.links.walk.Given as goal

abbrev pub invariant-loop-segment : goal.invariant-loop-segment
invariant-loop-segment l =
    walk l.folder.items l.segment-iterator ≡ walk l.initial.folder.items l.initial.segment-iterator
