use Rattle.std.proofs.Common.{ap, ◌∙◌}
use Rattle.gb_provider.specs.Rules.{output_place}
use Rattle.gb_provider.proofs.IndexLemmas.{places_pushed, same_order}
use Rattle.gb_provider.proofs.expressions.Expressions.push_output.Goals as goal

pub invariant_of-self-2 : goal.invariant_of-self-2
invariant_of-self-2 g c chosen =
    let none = ap (λ nodes. output_place nodes c.args.chosen) c.self.view_is ∙ c.requires in
    rw (c.push_reserved.ensures, c.make_room.ensures.kept)
    (places_pushed c.self.inside.nodes.items c.args.chosen c.args.declared none _ same_order c.self.inside.outputs c.make_room.new.outputs c.self.invariant c.in-Ok.ensures.ok chosen)
