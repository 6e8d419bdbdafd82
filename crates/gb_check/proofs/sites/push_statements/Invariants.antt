use Rattle.std.proofs.Common.{◌≡◌, ◌++◌, drop}
use Rattle.std.specs.Option.{option_copied}
use Rattle.gb_declare.specs.Declaring.{scope_in}
use Rattle.gb_registry.specs.Tables.{tables_of}
use Rattle.gb_check.specs.Marks.{marks_of}
use Rattle.gb_check.specs.Sites.{sites_of}
use Rattle.gb_check.proofs.sites.push_statements.Given as goal

abbrev pub invariant-loop-statement : goal.invariant-loop-statement
invariant-loop-statement g l =
    let tables = tables_of g.T.Transforms.meanings g.A.Actions.meanings l.scope.tables.now in
    let scope = scope_in l.scope.project.now l.scope.properties.now (option_copied l.scope.names) in
    let project = l.scope.project.now in
    record {
      sites :
          l.sites.items ++ sites_of project l.script (drop l.statement-index l.statements) l.rest
          ≡ l.fn.sites.items ++ sites_of project l.script l.statements l.lines;
      marks :
          l.marks.items ++ marks_of tables scope project (drop l.statement-index l.statements) l.rest
          ≡ l.fn.marks.items ++ marks_of tables scope project l.statements l.lines;
    }
