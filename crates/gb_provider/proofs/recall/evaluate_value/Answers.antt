use Rattle.std.proofs.Common.{arith}
use Rattle.std.proofs.lemmas.Grind.{common_steps}
use Rattle.gb_provider.specs.Rules.{rules}
use Rattle.gb_provider.proofs.RecallLemmas.{sound_extended}
use Rattle.gb_provider.proofs.recall.evaluate_value.Goals as goal

pub evaluate-requires-clause-sound : goal.evaluate-requires-clause-sound
evaluate-requires-clause-sound g c =
    sound_extended (rules g.T.Transforms.meanings c.args.nodes.now) c.args.states.now.items c.extend.new.states.items c.in_ok-extend.ensures.known c.in_ok-extend.ensures.closed c.requires.remembered.1

pub extend-requires : goal.extend-requires
extend-requires g c = grind (arith, common_steps)

pub evaluate-requires-clause-same : goal.evaluate-requires-clause-same
evaluate-requires-clause-same g c = grind (arith, common_steps)

pub evaluate-requires-clause-entry : goal.evaluate-requires-clause-entry
evaluate-requires-clause-entry g c = grind (arith, common_steps)
