use Rattle.std.proofs.Common.{◌≡◌, ◌++◌, take}
use Rattle.gb_feed.specs.Sites.{xml}
use Rattle.gb_feed.proofs.site.xml.Given as goal

abbrev pub invariant-loop-byte : goal.invariant-loop-byte
invariant-loop-byte l = l.made.items ≡ l.initial.made.items ++ xml (take l.byte-index l.words)
