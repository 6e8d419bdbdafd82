use Rattle.std.proofs.Common.{◌≡◌, take}
use Rattle.gb_pages.specs.Layouts.{root_of}
use Rattle.gb_pages.proofs.layout.root_of.Given as goal

abbrev pub invariant-loop-byte : goal.invariant-loop-byte
invariant-loop-byte l = l.root.items ≡ root_of (take l.byte-index l.path)
