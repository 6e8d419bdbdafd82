use Rattle.std.proofs.Common.{sym, ◌∙◌, length, ◌<◌, subst}
use Rattle.std.proofs.Common.{set}
use Rattle.gb_provider.specs.Changes.{AreChanged}
use Rattle.gb_provider.proofs.IndexLemmas.{node_changed, places_changed}
use Rattle.gb_provider.proofs.expressions.Expressions.change.Goals as goal

pub returns : goal.returns
returns g c =
    let below = subst (λ nodes. c.args.number < length nodes) (sym c.self.view_is) c.requires in
    let made = node_changed c.self.inside.nodes.items c.args.number below c.index_mut.result.now c.change_property.new.node c.index_mut.ensures.value c.args.change c.change_property.result c.change_property.ensures in
    subst (λ nodes. AreChanged c.args.change nodes c.args.number (set c.self.inside.nodes.items c.args.number c.change_property.new.node) c.change_property.result) c.self.view_is made

pub invariant_of-self : goal.invariant_of-self
invariant_of-self g c chosen =
    let below = subst (λ nodes. c.args.number < length nodes) (sym c.self.view_is) c.requires in
    let made = node_changed c.self.inside.nodes.items c.args.number below c.index_mut.result.now c.change_property.new.node c.index_mut.ensures.value c.args.change c.change_property.result c.change_property.ensures in
    c.self.invariant chosen ∙ sym (places_changed c.args.change c.self.inside.nodes.items (set c.self.inside.nodes.items c.args.number c.change_property.new.node) c.args.number c.change_property.result made chosen)
