use Rattle.std.proofs.Common.{All, get_or, sym, subst, ◌∙◌, arith}
use Rattle.std.proofs.lemmas.List.{take_all}
use Rattle.std.proofs.lemmas.List.Elements.{All-more}
use Rattle.std.proofs.lemmas.Result.{err_from_is_err_and}
use Rattle.gb_project.proofs.ReportLemmas.{passed_on}
use Rattle.gb_project.specs.Given.{HasValue, required_at}
use Rattle.gb_project.specs.Over.{IsOver, known_names}
use Rattle.gb_declare.specs.Realised.{each_of}
use Rattle.gb_provider.specs.declared.expression.Node.{Node}
use Rattle.gb_registry.specs.Tables.{tables_of}
use Rattle.gb_project.specs.Rows.{numbers_in}
use Rattle.gb_project.proofs.WalkLemmas.{row_fails, row_goes_on}
use Rattle.gb_project.proofs.row_values.arguments.Goals as goal

pub returns-in_err-value-clause-reported : goal.returns-in_err-value-clause-reported
returns-in_err-value-clause-reported g c = λ source number over.
    let context = c.args.context.now in
    let tables = tables_of g.T.Transforms.meanings g.A.Actions.meanings context.tables.now in
    let f = required_at tables source c.args.path.now c.args.name.now in
    let fault = c.in_err-value.field-0.0 in
    let there = subst (λ p. IsOver tables source (known_names context.projects.now context.tasks.now) context.faults.now p.nodes number) (sym c.loop-node.invariant.kept) over in
    let p = err_from_is_err_and c.from_residual.result c.from_residual.ensures.1 in
    passed_on tables source (each_of f (numbers_in number c.args.row.now)) c.from_residual.result p.0 fault p.1 p.2
    (row_fails f (λ (node : Node). number node.number) c.args.row.now c.loop-node.node-index (record { number = 0 }) (omega (arith, c.loop-node-test.true)) tables source c.loop-node.found fault
    (c.loop-node.invariant.reported source number over) (c.in_err-value.ensures.reported source number there))

pub loop-node-preserved : goal.loop-node-preserved
loop-node-preserved g c = record {
  kept = c.in_ok-value.ensures.kept ∙ c.loop-node.invariant.kept;
  given = All-more (λ (node : Node). HasValue g.T.Transforms.meanings c.args.providers.now.nodes node.number) c.args.row.now c.loop-node.node-index (record { number = 0 }) (omega (arith, c.loop-node-test.true))
      c.loop-node.invariant.given
      (subst (λ p. HasValue g.T.Transforms.meanings p.nodes (get_or c.args.row.now c.loop-node.node-index (record { number = 0 })).number) c.loop-node.invariant.kept c.in_ok-value.ensures.given);
  reported = λ source number over.
      let context = c.args.context.now in
      let tables = tables_of g.T.Transforms.meanings g.A.Actions.meanings context.tables.now in
      let there = subst (λ p. IsOver tables source (known_names context.projects.now context.tasks.now) context.faults.now p.nodes number) (sym c.loop-node.invariant.kept) over in
      row_goes_on (required_at tables source c.args.path.now c.args.name.now) (λ (node : Node). number node.number) c.args.row.now c.loop-node.node-index (record { number = 0 }) (omega (arith, c.loop-node-test.true))
      c.loop-node.found c.in_ok-value.value c.push.new.self c.in_ok-push.ensures.ok (c.loop-node.invariant.reported source number over) (c.in_ok-value.ensures.reported source number there);
}

pub returns-clause-given : goal.returns-clause-given
returns-clause-given g c =
    subst (All (λ (node : Node). HasValue g.T.Transforms.meanings c.args.providers.now.nodes node.number)) (take_all c.loop-node.node-index c.args.row.now (omega (arith, c.loop-node-test.false))) c.loop-node.invariant.given
