use Rattle.std.proofs.Common.{◌≡◌, drop}
use Rattle.gb_markdown.specs.Addresses.{is_visible}
use Rattle.gb_markdown.proofs.address.is_visible.Given as goal

abbrev pub invariant-loop-byte : goal.invariant-loop-byte
invariant-loop-byte l = is_visible (drop l.byte-index l.address) ≡ is_visible l.address
