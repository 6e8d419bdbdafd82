use Rattle.std.proofs.Common.{◌≡◌, ◌++◌, drop}
use Rattle.std.specs.Option.{option_copied}
use Rattle.gb_declare.specs.Declaring.{scope_in}
use Rattle.gb_registry.specs.Tables.{tables_of}
use Rattle.gb_check.specs.Marks.{clause_marks}
use Rattle.gb_check.proofs.clause_lines.push_clauses.Given as goal

abbrev pub invariant-loop-clause : goal.invariant-loop-clause
invariant-loop-clause g l =
    let tables = tables_of g.T.Transforms.meanings g.A.Actions.meanings l.scope.tables.now in
    let scope = scope_in l.scope.project.now l.scope.properties.now (option_copied l.scope.names) in
    l.marks.items ++ clause_marks tables scope l.path (drop l.clause-index l.clauses) l.rest
    ≡ l.fn.marks.items ++ clause_marks tables scope l.path l.clauses l.lines
