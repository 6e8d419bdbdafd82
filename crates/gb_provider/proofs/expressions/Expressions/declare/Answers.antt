use Rattle.std.proofs.Common.{◌<◌, ◌∙◌, Some, ap, length, set, subst, sym}
use Rattle.gb_provider.specs.declared.expression.Expression.TheVariants.{OfOutput}
use Rattle.gb_provider.specs.Rules.{output_place}
use Rattle.gb_provider.proofs.IndexLemmas.{node_declared, places_declared}
use Rattle.gb_provider.proofs.expressions.Expressions.declare.Goals as goal

pub returns : goal.returns
returns g c =
    let below = subst (λ nodes. c.args.number < length nodes) (sym c.self.view_is) c.requires.within in
    let exists = ap (λ nodes. output_place nodes c.args.chosen.now) c.self.view_is ∙ c.requires.exists in
    let made = node_declared c.self.inside.nodes.items c.args.number below c.index_mut.result.now c.declare.new.node c.index_mut.ensures.value c.args.chosen.now c.args.source exists c.declare.ensures in
    made ∙ ap (λ nodes. set nodes c.args.number (OfOutput (record { chosen = c.args.chosen.now; declared = Some c.args.source }))) c.self.view_is

pub invariant_of-self : goal.invariant_of-self
invariant_of-self g c chosen =
    let below = subst (λ nodes. c.args.number < length nodes) (sym c.self.view_is) c.requires.within in
    let exists = ap (λ nodes. output_place nodes c.args.chosen.now) c.self.view_is ∙ c.requires.exists in
    let made = node_declared c.self.inside.nodes.items c.args.number below c.index_mut.result.now c.declare.new.node c.index_mut.ensures.value c.args.chosen.now c.args.source exists c.declare.ensures in
    c.self.invariant chosen ∙ sym (ap (λ nodes. output_place nodes chosen) made ∙ places_declared c.self.inside.nodes.items c.args.number c.args.chosen.now (Some c.args.source) exists chosen)
