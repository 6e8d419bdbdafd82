use Rattle.std.proofs.Common.{◌≡◌, sym, subst}
use Rattle.gb_with.specs.Both.{both_shape}
use Rattle.gb_with.specs.Own.{as_first, as_second}
use Rattle.gb_with.proofs.both.BothActions.shape_of.Goals as goal

pub returns-in-First : goal.returns-in-First
returns-in-First g c = subst (λ w. c.shape_of.result.now
    ≡ both_shape g.A.Actions.meanings g.B.Actions.meanings w) (sym
    (as_first g.A.Actions.meanings g.B.Actions.meanings c.args.stored.now c.in-First.stored
    c.in-First.is)) c.shape_of.ensures

pub returns-in-Second : goal.returns-in-Second
returns-in-Second g c = subst (λ w. c.shape_of-in-Second.result.now
    ≡ both_shape g.A.Actions.meanings g.B.Actions.meanings w) (sym
    (as_second g.A.Actions.meanings g.B.Actions.meanings c.args.stored.now c.in-Second.stored
    c.in-Second.is)) c.shape_of-in-Second.ensures
