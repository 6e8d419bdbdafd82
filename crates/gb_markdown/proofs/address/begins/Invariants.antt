use Rattle.std.proofs.Common.{◌≡◌, drop}
use Rattle.gb_markdown.specs.Addresses.{begins}
use Rattle.gb_markdown.proofs.address.begins.Given as goal

abbrev pub invariant-loop-letter : goal.invariant-loop-letter
invariant-loop-letter l = begins (drop l.letter-index l.scheme) l.rest ≡ begins l.scheme l.address
