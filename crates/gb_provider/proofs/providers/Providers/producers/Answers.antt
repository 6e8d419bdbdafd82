use Rattle.std.proofs.Common.{sym, subst}
use Rattle.gb_provider.specs.Produced.{carriers}
use Rattle.gb_provider.specs.Remembered.{IsRemembered}
use Rattle.gb_provider.specs.Rules.{rules}
use Rattle.gb_provider.proofs.providers.Providers.producers.Goals as goal

pub recall_producers-requires-clause-values : goal.recall_producers-requires-clause-values
recall_producers-requires-clause-values g c =
    subst (λ nodes. IsRemembered (rules g.T.Transforms.meanings nodes) c.self.inside.values.items) (sym c.as_slice.ensures) c.self.invariant.values

pub recall_producers-requires-clause-remembered : goal.recall_producers-requires-clause-remembered
recall_producers-requires-clause-remembered g c =
    subst (λ nodes. IsRemembered (carriers g.T.Transforms.meanings nodes) c.self.inside.producers.items) (sym c.as_slice.ensures) c.self.invariant.producers

pub invariant_of-self : goal.invariant_of-self
invariant_of-self g c = record {
  within = c.self.invariant.within;
  values = subst (λ nodes. IsRemembered (rules g.T.Transforms.meanings nodes) c.recall_producers.new.values.items) c.as_slice.ensures c.recall_producers.ensures.values;
  producers = subst (λ nodes. IsRemembered (carriers g.T.Transforms.meanings nodes) c.recall_producers.new.states.items) c.as_slice.ensures c.recall_producers.ensures.remembered;
}
