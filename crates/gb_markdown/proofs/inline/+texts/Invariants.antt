use Rattle.std.proofs.Common.{◌≡◌, ◌++◌, ◌+◌, ◌*◌, [], drop}
use Rattle.gb_markdown.specs.Pieces.{written}
use Rattle.gb_markdown.specs.References.{meanings}
use Rattle.gb_markdown.specs.Inline.{inline, tokens_of}
use Rattle.gb_markdown.proofs.inline.+texts.Given as goal

abbrev pub decreases-inline : goal.decreases-inline
decreases-inline l = 3 * l.depth

abbrev pub decreases-write : goal.decreases-write
decreases-write l = 3 * l.depth + 1

abbrev pub decreases-tokens : goal.decreases-tokens
decreases-tokens l = 3 * l.depth + 2

abbrev pub invariant-tokens-loop-index : goal.invariant-tokens-loop-index
invariant-tokens-loop-index l =
    l.page.items
    ++ written (tokens_of (inline l.depth) (meanings l.refs) l.ends.items l.skip l.before (drop l.index l.line))
    ≡ l.initial.page.items ++ written (tokens_of (inline l.depth) (meanings l.refs) [] 0 10 l.line)
