use Rattle.std.proofs.Common.{◌≡◌, take}
use Rattle.gb_markdown.specs.Addresses.{link_address}
use Rattle.gb_markdown.proofs.address.link_address.Given as goal

abbrev pub invariant-loop-byte : goal.invariant-loop-byte
invariant-loop-byte l = l.made.items ≡ link_address (take l.byte-index l.address)
