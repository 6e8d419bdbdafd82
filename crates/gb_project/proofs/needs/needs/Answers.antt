use Rattle.std.proofs.Common.{sym, subst, ◌∙◌}
use Rattle.gb_project.specs.Given.{producers_at}
use Rattle.gb_project.specs.Over.{IsOver, known_names}
use Rattle.gb_provider.specs.declared.expression.Node.{Node}
use Rattle.gb_registry.specs.Tables.{tables_of}
use Rattle.gb_project.specs.Rows.{HaveValues}
use Rattle.gb_project.proofs.NeedLemmas.{all_needs}
use Rattle.gb_project.proofs.needs.needs.Goals as goal

pub add_producers-requires-2-clause-values : goal.add_producers-requires-2-clause-values
add_producers-requires-2-clause-values g c =
    subst (λ p. HaveValues g.T.Transforms.meanings p.nodes c.args.parts.now.roots.now) (sym c.add_producers.ensures.kept) c.requires.values.roots

pub add_producers-requires-3-clause-values : goal.add_producers-requires-3-clause-values
add_producers-requires-3-clause-values g c =
    subst (λ p. HaveValues g.T.Transforms.meanings p.nodes c.args.parts.now.arguments.now) (sym (c.add_producers-2.ensures.kept ∙ c.add_producers.ensures.kept)) c.requires.values.arguments

pub returns-clause-reported : goal.returns-clause-reported
returns-clause-reported g c = λ source number over.
    let context = c.args.context.now in
    let tables = tables_of g.T.Transforms.meanings g.A.Actions.meanings context.tables.now in
    let names = known_names context.projects.now context.tasks.now in
    let second = subst (λ p. IsOver tables source names context.faults.now p.nodes number) (sym c.add_producers.ensures.kept) over in
    let third = subst (λ p. IsOver tables source names context.faults.now p.nodes number) (sym (c.add_producers-2.ensures.kept ∙ c.add_producers.ensures.kept)) over in
    all_needs (producers_at tables source) (λ (node : Node). number node.number) c.args.parts.now.values.now c.args.parts.now.roots.now c.args.parts.now.arguments.now
    c.in_ok-tasks.tasks c.add_producers.new.tasks c.add_producers-2.new.tasks c.add_producers-3.new.tasks c.args.depends_on.now c.in_ok-tasks.ensures
    (c.in_ok-add_producers.ensures.reported source number over) (c.in_ok-add_producers-2.ensures.reported source number second) (c.in_ok-add_producers-3.ensures.reported source number third)
