use Rattle.std.proofs.Common.{◌≡◌, ◌++◌, reverse}
use Rattle.std.specs.List.{flat_map}
use Rattle.std.specs.Slice.Iter.{iter_rest}
use Rattle.gb_pages.specs.Listing.{latest_first}
use Rattle.gb_pages.proofs.index_page.latest_first.Given as goal

abbrev pub invariant-loop-link : goal.invariant-loop-link
invariant-loop-link l =
    l.links.items ++ flat_map (λ day. day.1) (reverse (iter_rest l.link-iterator.iter)) ≡ latest_first l.days
