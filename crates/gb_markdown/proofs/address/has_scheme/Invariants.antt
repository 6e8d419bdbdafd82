use Rattle.std.proofs.Common.{◌≡◌, drop}
use Rattle.gb_markdown.specs.Addresses.{has_scheme}
use Rattle.gb_markdown.proofs.address.has_scheme.Given as goal

abbrev pub invariant-loop-byte : goal.invariant-loop-byte
invariant-loop-byte l = has_scheme (drop l.byte-index l.address) ≡ has_scheme l.address
