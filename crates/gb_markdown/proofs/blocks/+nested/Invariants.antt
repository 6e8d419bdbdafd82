use Rattle.std.proofs.Common.{◌≡◌, ◌++◌, ◌+◌, ◌*◌, ◌-◌, [], map}
use Rattle.gb_markdown.specs.Pieces.{written}
use Rattle.gb_markdown.specs.References.{meanings}
use Rattle.gb_markdown.specs.Blocks.{blocks_of, items, read}
use Rattle.gb_markdown.specs.declared.blocks.Block.TheVariants as kinds
use Rattle.gb_markdown.proofs.blocks.+nested.Given as goal

abbrev pub decreases-blocks : goal.decreases-blocks
decreases-blocks l = 4 * l.depth

abbrev pub decreases-item : goal.decreases-item
decreases-item l = 4 * l.depth + 1

abbrev pub decreases-items : goal.decreases-items
decreases-items l = 4 * l.depth + 2

abbrev pub decreases-finish : goal.decreases-finish
decreases-finish l = 4 * l.depth + 3

abbrev pub invariant-blocks-loop-line : goal.invariant-blocks-loop-line
invariant-blocks-loop-line l =
    let made = read (blocks_of (l.depth - 1) (meanings l.refs)) (meanings l.refs)
    (map (λ name. name.items) l.names.items) l.tight l.block l.taken.items l.line-iterator in
    let meant = read (blocks_of (l.depth - 1) (meanings l.refs)) (meanings l.refs)
    (map (λ name. name.items) l.initial.names.items) l.tight kinds.Nothing [] l.initial.line-iterator in
    record {
      pieces : l.page.items ++ written made.0 ≡ l.initial.page.items ++ written meant.0;
      names : made.1 ≡ meant.1;
    }

abbrev pub invariant-items-loop-line : goal.invariant-items-loop-line
invariant-items-loop-line l =
    let made = items (blocks_of l.depth (meanings l.refs)) (map (λ name. name.items) l.names.items) l.tight
    l.width l.taken.items l.line-iterator in
    let meant = items (blocks_of l.depth (meanings l.refs)) (map (λ name. name.items) l.initial.names.items)
    l.tight 0 [] l.initial.line-iterator in
    record {
      pieces : l.page.items ++ written made.0 ≡ l.initial.page.items ++ written meant.0;
      names : made.1 ≡ meant.1;
    }
