use Rattle.std.proofs.Common.{◌<◌, Some, ap, length, subst, sym, ◌∙◌}
use Rattle.gb_provider.specs.declared.expression.Expression.TheVariants.{OfOutput}
use Rattle.gb_provider.specs.Answers.{Held}
use Rattle.gb_provider.specs.Rules.{output_place}
use Rattle.gb_provider.proofs.ForgetLemmas.{values_declared}
use Rattle.gb_provider.proofs.RecallLemmas.{none_remembered}
use Rattle.gb_provider.proofs.WithinLemmas.{changed_within}
use Rattle.gb_provider.proofs.providers.Providers.declare.Goals as goal

pub invariant_of-self : goal.invariant_of-self
invariant_of-self g c =
    let chosen = c.args.chosen.now in
    let within = subst (λ (h : Held _ _ _ _). c.args.source < length h.nodes) (sym c.self.view_is) c.requires.source in
    let exists = ap (λ (h : Held _ _ _ _). output_place h.nodes chosen) c.self.view_is ∙ c.requires.exists in
    record {
      within = rw c.declare.ensures (changed_within c.self.inside.nodes c.args.number (OfOutput (record { chosen = chosen; declared = Some c.args.source })) c.self.invariant.within within);
      values = rw c.declare.ensures (values_declared g.T.Transforms.meanings c.self.inside.nodes c.args.number c.self.inside.values.items c.forget.new.states.items c.self.invariant.values c.forget.ensures chosen c.args.source exists);
      producers = rw c.clear.ensures.items (none_remembered _);
    }
