use Rattle.std.proofs.Common.{sym, subst}
use Rattle.gb_provider.specs.Remembered.{IsRemembered}
use Rattle.gb_provider.specs.Rules.{rules}
use Rattle.gb_provider.proofs.providers.Providers.get.Goals as goal

pub recall-requires-clause-remembered : goal.recall-requires-clause-remembered
recall-requires-clause-remembered g c =
    subst (λ nodes. IsRemembered (rules g.T.Transforms.meanings nodes) c.self.inside.values.items) (sym c.as_slice.ensures) c.self.invariant.values

pub invariant_of-self : goal.invariant_of-self
invariant_of-self g c = record {
  within = c.self.invariant.within;
  values = subst (λ nodes. IsRemembered (rules g.T.Transforms.meanings nodes) c.recall.new.states.items) c.as_slice.ensures c.recall.ensures.remembered;
  producers = c.self.invariant.producers;
}
