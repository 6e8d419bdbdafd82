use Rattle.std.proofs.Common.{◌++◌, ◌+◌, List, drop, ap, sym, ◌∙◌}
use Rattle.std.specs.Option.{option_copied}
use Rattle.gb_declare.specs.Declaring.{scope_in}
use Rattle.gb_registry.specs.Tables.{tables_of}
use Rattle.gb_script.specs.declared.script.Statement.{Statement}
use Rattle.gb_check.specs.Marks.{Lines, first_lines, marks_of, other_lines, statement_marks}
use Rattle.gb_check.specs.Sites.{registered_at, sites_of}
use Rattle.gb_check.proofs.Rows.{rest_from, step}
use Rattle.gb_check.proofs.sites.push_statements.Goals as goal

pub loop-statement-preserved : goal.loop-statement-preserved
loop-statement-preserved g c =
    let known = c.args.scope.now in
    let tables = tables_of g.T.Transforms.meanings g.A.Actions.meanings known.tables.now in
    let scope = scope_in known.project.now known.properties.now (option_copied known.names) in
    let project = known.project.now in
    let script = c.args.script.now in
    let statement = c.statement-item.result in
    let index = c.loop-statement.statement-index in
    let lines = c.loop-statement.rest.now in
    let sites = c.loop-statement.sites.items in
    let marks = c.loop-statement.marks.items in
    let statements = drop (index + 1) c.args.statements.now in
    let left = rest_from c.args.statements.now index statement c.loop-statement-test.true c.statement-item.is in
    record {
      sites =
          ap (λ (rest : List Lines). c.push_statement.new.sites.items ++ sites_of project script statements rest) c.other_lines-rest.ensures
          ∙ step sites (registered_at project script (first_lines lines).0 statement) (sites_of project script statements (other_lines lines)) c.push_statement.new.sites.items _
          (c.in_ok-push_statement.ensures.sites ∙ ap (λ (line : Lines). sites ++ registered_at project script line.0 statement) c.first_lines-line.ensures)
          (ap (λ (rest : List Statement). sites ++ sites_of project script rest lines) (sym left) ∙ c.loop-statement.invariant.sites);
      marks =
          ap (λ (rest : List Lines). c.push_marks.new.marks.items ++ marks_of tables scope project statements rest) c.other_lines-rest.ensures
          ∙ step marks (statement_marks tables scope project (first_lines lines) statement) (marks_of tables scope project statements (other_lines lines)) c.push_marks.new.marks.items _
          (c.in_ok-push_marks.ensures.marks ∙ ap (λ (line : Lines). marks ++ statement_marks tables scope project line statement) c.first_lines-line.ensures)
          (ap (λ (rest : List Statement). marks ++ marks_of tables scope project rest lines) (sym left) ∙ c.loop-statement.invariant.marks);
    }
