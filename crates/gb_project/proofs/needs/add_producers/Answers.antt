use Rattle.std.proofs.Common.{sym, subst, ◌∙◌, slice_index_or, arith}
use Rattle.gb_project.specs.Given.{HasValue, producers_at}
use Rattle.gb_project.specs.Over.{IsOver, known_names}
use Rattle.gb_provider.specs.declared.expression.Node.{Node}
use Rattle.gb_registry.specs.Tables.{tables_of}
use Rattle.gb_project.proofs.NeedLemmas.{more_needs}
use Rattle.gb_project.proofs.needs.add_producers.Goals as goal

pub producers-requires-clause-value : goal.producers-requires-clause-value
producers-requires-clause-value g c =
    subst (λ p. HasValue g.T.Transforms.meanings p.nodes (slice_index_or c.args.row.now c.loop-node.node-index (record { number = 0 })).number) (sym c.loop-node.invariant.kept)
    (c.requires.values c.loop-node.node-index (record { number = 0 }) (omega (arith, c.loop-node-test.true)))

pub loop-node-preserved : goal.loop-node-preserved
loop-node-preserved g c = record {
  kept = c.in_ok-found.ensures.kept ∙ c.loop-node.invariant.kept;
  reported = λ source number over.
      let context = c.args.context.now in
      let tables = tables_of g.T.Transforms.meanings g.A.Actions.meanings context.tables.now in
      let there = subst (λ p. IsOver tables source (known_names context.projects.now context.tasks.now) context.faults.now p.nodes number) (sym c.loop-node.invariant.kept) over in
      more_needs (producers_at tables source) (λ (node : Node). number node.number) c.args.row.now c.loop-node.node-index (record { number = 0 }) (omega (arith, c.loop-node-test.true))
      c.loop-node.tasks c.extend.new.self c.in_ok-found.found c.in_ok-extend.ensures.ok (c.in_ok-found.ensures.reported source number there)
      ∙ c.loop-node.invariant.reported source number over;
}
