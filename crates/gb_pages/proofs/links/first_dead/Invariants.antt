use Rattle.std.proofs.Common.{◌≡◌, drop}
use Rattle.gb_pages.specs.Links.{first_dead}
use Rattle.gb_pages.proofs.links.first_dead.Given as goal

abbrev pub invariant-loop-page : goal.invariant-loop-page
invariant-loop-page l = first_dead l.files (drop l.page-index l.files) ≡ first_dead l.files l.files
