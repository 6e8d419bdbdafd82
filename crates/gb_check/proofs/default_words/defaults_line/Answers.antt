use Rattle.std.proofs.Common.{◌+◌, List, drop, ap, sym, ◌∙◌}
use Rattle.gb_script.specs.declared.script.Statement.{Statement}
use Rattle.gb_check.specs.DefaultWords.{defaults_line, line_after}
use Rattle.gb_check.specs.Marks.{Lines, other_lines}
use Rattle.gb_check.proofs.Rows.{rest_from}
use Rattle.gb_check.proofs.default_words.defaults_line.Goals as goal

pub loop-statement-preserved : goal.loop-statement-preserved
loop-statement-preserved c =
    let statement = c.statement-item.result in
    let index = c.loop-statement.statement-index in
    let lines = c.loop-statement.rest.now in
    let last = c.loop-statement.last in
    let statements = drop (index + 1) c.args.statements.now in
    let left = rest_from c.args.statements.now index statement c.loop-statement-test.true c.statement-item.is in
    ap (λ (rest : List Lines). defaults_line c.line_after-last.result statements rest) c.other_lines-rest.ensures
    ∙ ap (λ line. defaults_line line statements (other_lines lines)) (c.line_after-last.ensures ∙ ap (λ (first : Lines). line_after last first.0 statement) c.first_lines-line.ensures)
    ∙ ap (λ (rest : List Statement). defaults_line last rest lines) (sym left)
    ∙ c.loop-statement.invariant
