use Rattle.std.specs.Option.{option_copied}
use Rattle.gb_declare.specs.Declaring.{scope_in}
use Rattle.std.proofs.Common.{◌≡◌, drop}
use Rattle.gb_registry.specs.Tables.{tables_of}
use Rattle.gb_declare.specs.Declaring.{trees_faults}
use Rattle.gb_declare.proofs.clauses.check_expressions.Given as goal

abbrev pub invariant-loop-expression : goal.invariant-loop-expression
invariant-loop-expression g l =
    trees_faults (tables_of g.T.Transforms.meanings g.A.Actions.meanings l.scope.tables.now) (scope_in l.scope.project.now l.scope.properties.now (option_copied l.scope.names)) l.expressions
    ≡ trees_faults (tables_of g.T.Transforms.meanings g.A.Actions.meanings l.scope.tables.now) (scope_in l.scope.project.now l.scope.properties.now (option_copied l.scope.names)) (drop l.expression-index l.expression-items)
