use Rattle.std.proofs.Common.{◌∙◌, subst, arith}
use Rattle.std.proofs.lemmas.Grind.{common_steps}
use Rattle.gb_provider.specs.Remembered.{IsRemembered}
use Rattle.gb_provider.specs.Rules.{rules}
use Rattle.gb_provider.specs.Produced.{carriers}
use Rattle.gb_provider.proofs.RecallLemmas.{sound_extended}
use Rattle.gb_provider.proofs.producing.evaluate_producers.Goals as goal

pub returns-clause-values : goal.returns-clause-values
returns-clause-values g c =
    subst (λ nodes. IsRemembered (rules g.T.Transforms.meanings nodes) c.reader.inside.values.items) (c.reader.view_is ∙ c.evaluate-found.ensures.kept) c.reader.invariant.1

pub evaluate-found-requires-clause-sound : goal.evaluate-found-requires-clause-sound
evaluate-found-requires-clause-sound g c =
    sound_extended (carriers g.T.Transforms.meanings c.args.nodes.now) c.args.states.now.items c.extend.new.states.items c.in_ok-extend.ensures.known c.in_ok-extend.ensures.closed c.requires.remembered.1

pub extend-requires : goal.extend-requires
extend-requires g c = grind (arith, common_steps)

pub evaluate-found-requires-clause-same : goal.evaluate-found-requires-clause-same
evaluate-found-requires-clause-same g c = grind (arith, common_steps)

pub evaluate-found-requires-clause-entry : goal.evaluate-found-requires-clause-entry
evaluate-found-requires-clause-entry g c = grind (arith, common_steps)
