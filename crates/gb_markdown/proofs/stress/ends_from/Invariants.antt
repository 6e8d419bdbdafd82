use Rattle.std.proofs.Common.{◌≡◌, [], ◌∷◌, drop}
use Rattle.gb_markdown.specs.References.{meanings}
use Rattle.gb_markdown.specs.Inline.{ends_from}
use Rattle.gb_markdown.proofs.stress.ends_from.Given as goal

abbrev pub invariant-loop-index : goal.invariant-loop-index
invariant-loop-index l =
    ends_from (meanings l.refs) l.stop l.stack.items l.ends.items l.skip l.before (drop l.index l.line)
    ≡ ends_from (meanings l.refs) l.stop (l.fn.first ∷ []) [] 0 l.fn.first.sign l.line
