use Rattle.std.proofs.Common.{length, sym, subst}
use Rattle.gb_provider.specs.Answers.{Held}
use Rattle.gb_provider.specs.Rules.{OperandsWithin}
use Rattle.gb_provider.proofs.GrowLemmas.{values_remembered, tasks_remembered}
use Rattle.gb_provider.proofs.WithinLemmas.{added_within}
use Rattle.gb_provider.proofs.providers.Providers.add.Goals as goal

pub invariant_of-self-2 : goal.invariant_of-self-2
invariant_of-self-2 g c =
    let within = subst (λ (h : Held _ _ _ _). OperandsWithin (length h.nodes) c.args.expression) (sym c.self.view_is) c.requires.within in
    let was = c.self.invariant in
    rw c.in_ok-push.ensures.ok (record {
      within = added_within c.self.inside.nodes c.args.expression was.within within;
      values = values_remembered g.T.Transforms.meanings c.self.inside.nodes c.args.expression c.requires.plain was.within c.self.inside.values.items was.values;
      producers = tasks_remembered g.T.Transforms.meanings c.self.inside.nodes c.args.expression c.requires.plain was.within c.self.inside.producers.items was.producers;
    })
