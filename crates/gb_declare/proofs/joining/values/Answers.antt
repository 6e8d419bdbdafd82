use Rattle.std.proofs.Common.{ap}
use Rattle.gb_declare.specs.Borrowed.{named_in}
use Rattle.gb_declare.specs.Joined.{value_in}
use Rattle.gb_declare.proofs.JoinLemmas.{put_in, taken, passed}
use Rattle.gb_declare.proofs.joining.values.Goals as goal
use Rattle.gb_declare.proofs.joining.values.Goals.{in-Some+in_ok-put, in_default}

pub loop-clause-preserved : goal.loop-clause-preserved
loop-clause-preserved c =
    elim c.match-value_in.branch [
      | in-Some+in_ok-put w ↦
          taken value_in c.args.clauses.now c.loop-clause.clause-index c.clause-item.result c.loop-clause-test.true c.clause-item.is (named_in c.loop-clause.values) _ c.loop-clause.invariant
          _ _ w.in-Some.ensures (put_in (λ b. b.now) c.loop-clause.values w.put.new.things c.match-value_in.values _ _ w.values-is w.in_ok-put.ensures)
      | in_default w ↦
          passed value_in c.args.clauses.now c.loop-clause.clause-index c.clause-item.result c.loop-clause-test.true c.clause-item.is (named_in c.loop-clause.values) _ c.loop-clause.invariant
          _ w.in_default.ensures (ap named_in w.values-is)
    ]
