use Rattle.std.specs.Option.{option_copied}
use Rattle.gb_declare.specs.Declaring.{scope_in}
use Rattle.std.proofs.Common.{ℕ, List, inr, ap, sym, ◌∙◌, Some}
use Rattle.std.proofs.lemmas.Result.{err_from_is_err_and}
use Rattle.gb_report.specs.declared.fault.Fault.TheVariants.{BadShape}
use Rattle.gb_registry.specs.Tables.{tables_of}
use Rattle.gb_declare.specs.Headings.{words_in}
use Rattle.gb_declare.proofs.DeclaringLemmas.{stops_at_clash, stops_in_clause, goes_on, agrees_on}
use Rattle.gb_declare.proofs.declaring.check_clauses.Goals as goal

pub returns-then-clashes : goal.returns-then-clashes
returns-then-clashes g c =
    inr (
    stops_at_clash (tables_of g.T.Transforms.meanings g.A.Actions.meanings c.args.scope.now.tables.now) (scope_in c.args.scope.now.project.now c.args.scope.now.properties.now (option_copied c.args.scope.now.names)) c.args.path.now
    c.args.clauses.now c.loop-clause.clause-index c.clause-item.result c.loop-clause-test.true c.clause-item.is (words_in c.loop-clause.words) _ c.loop-clause.invariant.clear c.loop-clause.invariant.agrees
    (sym c.clashes.ensures ∙ c.if-clashes.true)
    ∙ ap (λ (path : List ℕ). Some (BadShape path)) (sym c.in_ok-copy.ensures))

pub returns-in_err-check_clause : goal.returns-in_err-check_clause
returns-in_err-check_clause g c =
    let p = err_from_is_err_and c.from_residual-in_err-check_clause.result c.from_residual-in_err-check_clause.ensures.1 in
    rw (p.1, p.2) (
    stops_in_clause (tables_of g.T.Transforms.meanings g.A.Actions.meanings c.args.scope.now.tables.now) (scope_in c.args.scope.now.project.now c.args.scope.now.properties.now (option_copied c.args.scope.now.names)) c.args.path.now
    c.args.clauses.now c.loop-clause.clause-index c.clause-item.result c.loop-clause-test.true c.clause-item.is (words_in c.loop-clause.words) _ c.loop-clause.invariant.clear c.loop-clause.invariant.agrees
    (sym c.clashes.ensures ∙ c.if-clashes.false) _ c.in_err-check_clause.ensures)

pub loop-clause-preserved : goal.loop-clause-preserved
loop-clause-preserved g c = record {
  clear =
      goes_on (tables_of g.T.Transforms.meanings g.A.Actions.meanings c.args.scope.now.tables.now) (scope_in c.args.scope.now.project.now c.args.scope.now.properties.now (option_copied c.args.scope.now.names)) c.args.path.now
      c.args.clauses.now c.loop-clause.clause-index c.clause-item.result c.loop-clause-test.true c.clause-item.is (words_in c.loop-clause.words) _ c.loop-clause.invariant.clear c.loop-clause.invariant.agrees
      (sym c.clashes.ensures ∙ c.if-clashes.false) c.in_ok-check_clause.ensures;
  agrees =
      agrees_on (tables_of g.T.Transforms.meanings g.A.Actions.meanings c.args.scope.now.tables.now) (scope_in c.args.scope.now.project.now c.args.scope.now.properties.now (option_copied c.args.scope.now.names)) c.args.path.now
      c.args.clauses.now c.loop-clause.clause-index c.clause-item.result c.loop-clause-test.true c.clause-item.is (words_in c.loop-clause.words) _ c.loop-clause.invariant.clear c.loop-clause.invariant.agrees
      (sym c.clashes.ensures ∙ c.if-clashes.false) _ c.in_ok-note.ensures;
}
