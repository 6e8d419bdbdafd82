use Rattle.gb_declare.specs.Borrowed.{now_of}
use Rattle.gb_declare.proofs.JoinLemmas.{acted}
use Rattle.gb_declare.proofs.joining.actions.Goals as goal

pub loop-clause-preserved : goal.loop-clause-preserved
loop-clause-preserved c =
    acted c.args.clauses.now c.loop-clause.clause-index c.clause-item.result c.loop-clause-test.true c.clause-item.is
    (now_of c.loop-clause.actions) (now_of c.put_action.new.actions) _ c.loop-clause.invariant c.in_ok-put_action.ensures
