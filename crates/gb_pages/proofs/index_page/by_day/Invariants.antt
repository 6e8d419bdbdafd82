use Rattle.std.proofs.Common.{◌≡◌, [], drop}
use Rattle.gb_pages.specs.Listing.{by_day}
use Rattle.gb_pages.proofs.index_page.by_day.Given as goal

abbrev pub invariant-loop-path : goal.invariant-loop-path
invariant-loop-path l = by_day l.days (drop l.path-index l.files) ≡ by_day [] l.files
