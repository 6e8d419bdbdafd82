use Rattle.std.proofs.Common.{◌≡◌, []}
use Rattle.gb_markdown.specs.References.{meanings}
use Rattle.gb_markdown.specs.Blocks.{with_labels_taken}
use Rattle.gb_markdown.specs.declared.blocks.Block.TheVariants as kinds
use Rattle.gb_markdown.proofs.gathered.with_labels_taken.Given as goal

abbrev pub invariant-loop-line : goal.invariant-loop-line
invariant-loop-line l =
    with_labels_taken (meanings l.references.items) l.block l.text.items l.line-iterator
    ≡ with_labels_taken [] kinds.Nothing [] l.initial.line-iterator
