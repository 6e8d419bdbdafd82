use Rattle.std.proofs.Common.{sym, subst}
use Rattle.gb_action.specs.Replies.{Answers}
use Rattle.gb_action.specs.Shapes.{IsAsked}
use Rattle.gb_with.specs.Both.{both_shape, both_makes, both_prints}
use Rattle.gb_with.specs.Own.{as_first, as_second}
use Rattle.gb_with.proofs.both.BothActions.run.Goals as goal

pub run-requires : goal.run-requires
run-requires g c = subst (λ w. IsAsked (both_shape g.A.Actions.meanings g.B.Actions.meanings w)
    c.args.request.now) (as_first g.A.Actions.meanings g.B.Actions.meanings c.args.stored.now
    c.in-First.stored c.in-First.is) c.requires

pub run-requires-in-Second : goal.run-requires-in-Second
run-requires-in-Second g c = subst (λ w. IsAsked (both_shape g.A.Actions.meanings g.B.Actions.meanings w)
    c.args.request.now) (as_second g.A.Actions.meanings g.B.Actions.meanings c.args.stored.now
    c.in-Second.stored c.in-Second.is) c.requires

pub returns-in-First : goal.returns-in-First
returns-in-First g c = subst (λ w. Answers (both_makes g.A.Actions.meanings g.B.Actions.meanings w)
    (both_prints g.A.Actions.meanings g.B.Actions.meanings w) c.args.request.now c.run.result) (sym
    (as_first g.A.Actions.meanings g.B.Actions.meanings c.args.stored.now c.in-First.stored
    c.in-First.is)) c.run.ensures

pub returns-in-Second : goal.returns-in-Second
returns-in-Second g c = subst (λ w. Answers (both_makes g.A.Actions.meanings g.B.Actions.meanings w)
    (both_prints g.A.Actions.meanings g.B.Actions.meanings w) c.args.request.now c.run-in-Second.result)
    (sym (as_second g.A.Actions.meanings g.B.Actions.meanings c.args.stored.now c.in-Second.stored
    c.in-Second.is)) c.run-in-Second.ensures
