use Rattle.std.proofs.Common.{ap}
use Rattle.gb_declare.specs.Borrowed.{named_in}
use Rattle.gb_declare.specs.Joined.{files_in}
use Rattle.gb_declare.proofs.JoinLemmas.{put_in, taken, passed}
use Rattle.gb_declare.proofs.joining.files.Goals as goal
use Rattle.gb_declare.proofs.joining.files.Goals.{in-Some+in_ok-put, in_default}

pub loop-clause-preserved : goal.loop-clause-preserved
loop-clause-preserved c =
    elim c.match-files_in.branch [
      | in-Some+in_ok-put w ↦
          taken files_in c.args.clauses.now c.loop-clause.clause-index c.clause-item.result c.loop-clause-test.true c.clause-item.is (named_in c.loop-clause.files) _ c.loop-clause.invariant
          _ _ w.in-Some.ensures (put_in (λ b. b.now) c.loop-clause.files w.put.new.things c.match-files_in.files _ _ w.files-is w.in_ok-put.ensures)
      | in_default w ↦
          passed files_in c.args.clauses.now c.loop-clause.clause-index c.clause-item.result c.loop-clause-test.true c.clause-item.is (named_in c.loop-clause.files) _ c.loop-clause.invariant
          _ w.in_default.ensures (ap named_in w.files-is)
    ]
