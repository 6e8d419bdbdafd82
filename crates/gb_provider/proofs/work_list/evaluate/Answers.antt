use Rattle.gb_provider.specs.Search.{known}
use Rattle.gb_provider.proofs.EvaluateLemmas.{some_known}
use Rattle.gb_provider.proofs.work_list.evaluate.Goals as goal

pub returns-then-is_known-clause-evaluated : goal.returns-then-is_known-clause-evaluated
returns-then-is_known-clause-evaluated g c =
    (c.requires.same, c.requires.sound, some_known (known c.args.states.now.items c.args.entry) c.if-is_known.ensures.known)
