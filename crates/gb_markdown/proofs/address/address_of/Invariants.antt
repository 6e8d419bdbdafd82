use Rattle.std.proofs.Common.{◌≡◌, take}
use Rattle.gb_markdown.specs.Addresses.{address_of}
use Rattle.gb_markdown.proofs.address.address_of.Given as goal

abbrev pub invariant-loop-byte : goal.invariant-loop-byte
invariant-loop-byte l = l.address.items ≡ address_of (take l.byte-index l.path)
