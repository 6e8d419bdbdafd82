use Rattle.std.proofs.Common.{subst, ◌∙◌}
use Rattle.gb_project.specs.Rows.{HaveValues}
use Rattle.gb_project.proofs.evaluating.contents.Goals as goal

pub returns-clause-given : goal.returns-clause-given
returns-clause-given g c = record {
  values = c.in_ok-values.ensures.given;
  roots = subst (λ p. HaveValues g.T.Transforms.meanings p.nodes c.args.parts.now.roots.now) c.in_ok-values.ensures.kept c.in_ok-files.ensures.given;
  arguments =
      subst (λ p. HaveValues g.T.Transforms.meanings p.nodes c.args.parts.now.arguments.now) (c.in_ok-outputs.ensures.kept ∙ c.in_ok-files.ensures.kept ∙ c.in_ok-values.ensures.kept)
      c.in_ok-actions.ensures.given;
}
