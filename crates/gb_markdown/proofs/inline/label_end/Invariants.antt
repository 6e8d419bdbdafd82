use Rattle.std.proofs.Common.{◌≡◌, drop}
use Rattle.gb_markdown.specs.Inline.{label_end}
use Rattle.gb_markdown.specs.declared.inline.Nested.TheVariants as nested
use Rattle.gb_markdown.proofs.inline.label_end.Given as goal

abbrev pub invariant-loop-index : goal.invariant-loop-index
invariant-loop-index l = label_end l.inside l.skip l.before l.index (drop l.index l.rest)
    ≡ label_end nested.Nothing 0 91 0 l.rest
