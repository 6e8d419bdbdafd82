use Rattle.std.proofs.Common.{◌≡◌, ◌++◌, [], false, drop}
use Rattle.gb_markdown.specs.Pieces.{written}
use Rattle.gb_markdown.specs.References.{meanings}
use Rattle.gb_markdown.specs.Tables.{cells}
use Rattle.gb_markdown.proofs.pipe_table.cells.Given as goal

abbrev pub invariant-loop-byte : goal.invariant-loop-byte
invariant-loop-byte l =
    l.page.items ++ written (cells (meanings l.refs) l.element l.hidden l.taken.items (drop l.byte-index l.line))
    ≡ l.initial.page.items ++ written (cells (meanings l.refs) l.element false [] l.line)
