use Rattle.std.specs.Option.{option_copied}
use Rattle.gb_declare.specs.Declaring.{scope_in}
use Rattle.std.proofs.Common.{◌≡◌, [], drop, take, map}
use Rattle.gb_registry.specs.Tables.{tables_of}
use Rattle.gb_declare.specs.Borrowed.{now_of}
use Rattle.gb_declare.specs.Declaring.{clauses_faults, heading}
use Rattle.gb_declare.specs.Headings.{words_in}
use Rattle.gb_declare.proofs.HeadingLemmas.{Agrees}
use Rattle.gb_declare.proofs.declaring.check_clauses.Given as goal

-- no clause so far is at fault, and the words of their names are noted
abbrev pub invariant-loop-clause : goal.invariant-loop-clause
invariant-loop-clause g l = record {
  clear : clauses_faults (tables_of g.T.Transforms.meanings g.A.Actions.meanings l.scope.tables.now) (scope_in l.scope.project.now l.scope.properties.now (option_copied l.scope.names)) l.path [] (now_of l.clauses)
      ≡ clauses_faults (tables_of g.T.Transforms.meanings g.A.Actions.meanings l.scope.tables.now) (scope_in l.scope.project.now l.scope.properties.now (option_copied l.scope.names)) l.path (now_of (take l.clause-index l.clauses)) (now_of (drop l.clause-index l.clauses));
  agrees : Agrees (words_in l.words) (map heading (now_of (take l.clause-index l.clauses)));
}
