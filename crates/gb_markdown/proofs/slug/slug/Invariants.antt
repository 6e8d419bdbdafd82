use Rattle.std.proofs.Common.{◌≡◌, take}
use Rattle.gb_markdown.specs.Blocks.{slug}
use Rattle.gb_markdown.proofs.slug.slug.Given as goal

abbrev pub invariant-loop-byte : goal.invariant-loop-byte
invariant-loop-byte l = l.name.items ≡ slug (take l.byte-index l.words)
