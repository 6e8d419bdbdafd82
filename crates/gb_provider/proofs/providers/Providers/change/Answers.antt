use Rattle.std.proofs.Common.{length, sym, subst}
use Rattle.gb_provider.specs.Answers.{Held}
use Rattle.gb_provider.specs.Changes.{ChangeWithin}
use Rattle.gb_provider.proofs.ForgetLemmas.{values_set}
use Rattle.gb_provider.proofs.RecallLemmas.{none_remembered}
use Rattle.gb_provider.proofs.WithinLemmas.{all_changed_within}
use Rattle.gb_provider.proofs.providers.Providers.change.Goals as goal

pub invariant_of-self-2 : goal.invariant_of-self-2
invariant_of-self-2 g c =
    let within = subst (λ (h : Held _ _ _ _). ChangeWithin (length h.nodes) c.args.change) (sym c.self.view_is) c.requires.change in
    record {
      within = all_changed_within c.self.inside.nodes c.args.node.number c.args.change c.change.new.self c.in_ok-change.field-0 c.self.invariant.within within c.in_ok-change.ensures;
      values = values_set g.T.Transforms.meanings c.self.inside.nodes c.args.node.number c.self.inside.values.items c.forget.new.states.items c.self.invariant.values c.forget.ensures c.args.change c.change.new.self c.in_ok-change.field-0 c.in_ok-change.ensures;
      producers = rw c.clear.ensures.items (none_remembered _);
    }
