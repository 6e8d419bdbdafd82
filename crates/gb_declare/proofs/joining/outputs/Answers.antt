use Rattle.std.proofs.Common.{ap}
use Rattle.gb_declare.specs.Borrowed.{outputs_in}
use Rattle.gb_declare.specs.Joined.{output_in}
use Rattle.gb_declare.proofs.JoinLemmas.{put_in, taken, passed}
use Rattle.gb_declare.proofs.joining.outputs.Goals as goal
use Rattle.gb_declare.proofs.joining.outputs.Goals.{in-Some+in_ok-put, in_default}

pub loop-clause-preserved : goal.loop-clause-preserved
loop-clause-preserved c =
    elim c.match-output_in.branch [
      | in-Some+in_ok-put w ↦
          taken output_in c.args.clauses.now c.loop-clause.clause-index c.clause-item.result c.loop-clause-test.true c.clause-item.is (outputs_in c.loop-clause.outputs) _ c.loop-clause.invariant
          _ _ w.in-Some.ensures (put_in (λ made. (made.0, made.1.now)) c.loop-clause.outputs w.put.new.things c.match-output_in.outputs _ _ w.outputs-is w.in_ok-put.ensures)
      | in_default w ↦
          passed output_in c.args.clauses.now c.loop-clause.clause-index c.clause-item.result c.loop-clause-test.true c.clause-item.is (outputs_in c.loop-clause.outputs) _ c.loop-clause.invariant
          _ w.in_default.ensures (ap outputs_in w.outputs-is)
    ]
