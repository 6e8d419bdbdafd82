use Rattle.std.proofs.Common.{◌≡◌, length, sym, subst, ◌∙◌}
use Rattle.gb_provider.specs.Rules.{PlaceWithin, output_place}
use Rattle.gb_provider.proofs.IndexLemmas.{place_within}
use Rattle.gb_provider.proofs.expressions.place_of.Goals as goal

pub returns-clause-place : goal.returns-clause-place
returns-clause-place g c = c.copied.ensures ∙ (c.get.ensures.value ∙ c.requires c.args.chosen.now)

pub returns-clause-within : goal.returns-clause-within
returns-clause-within g c =
    let place : c.copied.result ≡ output_place c.args.nodes.now c.args.chosen.now = c.copied.ensures ∙ (c.get.ensures.value ∙ c.requires c.args.chosen.now) in
    subst (PlaceWithin (length c.args.nodes.now)) (sym place) (place_within c.args.nodes.now c.args.chosen.now)
