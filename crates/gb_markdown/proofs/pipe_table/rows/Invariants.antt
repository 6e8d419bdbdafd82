use Rattle.std.proofs.Common.{◌≡◌, ◌++◌}
use Rattle.gb_markdown.specs.Pieces.{written}
use Rattle.gb_markdown.specs.References.{meanings}
use Rattle.gb_markdown.specs.Tables.{rows}
use Rattle.gb_markdown.proofs.pipe_table.rows.Given as goal

abbrev pub invariant-loop-line : goal.invariant-loop-line
invariant-loop-line l =
    l.page.items ++ written (rows (meanings l.refs) l.line-iterator)
    ≡ l.initial.page.items ++ written (rows (meanings l.refs) l.initial.line-iterator)
