use Rattle.std.proofs.Common.{◌≡◌, ◌++◌, false, drop}
use Rattle.gb_pages.specs.Contents.{untagged}
use Rattle.gb_pages.proofs.contents.untagged.Given as goal

abbrev pub invariant-loop-byte : goal.invariant-loop-byte
invariant-loop-byte l =
    l.list.items ++ untagged l.inside (drop l.byte-index l.words)
    ≡ l.initial.list.items ++ untagged false l.words
