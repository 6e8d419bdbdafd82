use Rattle.std.proofs.Common.{◌≡◌, [], drop}
use Rattle.gb_feed.specs.Feed.{entries}
use Rattle.gb_feed.proofs.feed.entries.Given as goal

abbrev pub invariant-loop-path : goal.invariant-loop-path
invariant-loop-path l = entries l.base l.days (drop l.path-index l.files) ≡ entries l.base [] l.files
