use Rattle.std.proofs.Common.{◌≡◌, take}
use Rattle.gb_pages.specs.Listing.{by_name}
use Rattle.gb_pages.proofs.index_page.by_name.Given as goal

abbrev pub invariant-loop-path : goal.invariant-loop-path
invariant-loop-path l = l.links.items ≡ by_name (take l.path-index l.files)
