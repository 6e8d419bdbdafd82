use Rattle.std.proofs.Common.{[], refl}
use Rattle.gb_declare.specs.Joined.{must_run_after_in}
use Rattle.gb_declare.proofs.NamingLemmas.{named_more, clear_more}
use Rattle.gb_declare.proofs.named_tasks.must_run_after.Goals as goal
use Rattle.gb_declare.proofs.named_tasks.must_run_after.Goals.{in-Some+in_ok-add_named, in_default}

pub loop-clause-preserved : goal.loop-clause-preserved
loop-clause-preserved c =
    elim c.match-must_run_after_in.branch [
      | in-Some+in_ok-add_named w ↦ record {
        tasks = rw w.tasks-is (named_more c.args.project.now must_run_after_in c.args.clauses.now c.loop-clause.clause-index c.clause-item.result c.loop-clause-test.true c.clause-item.is
            w.in-Some.texts.now w.in-Some.ensures c.loop-clause.tasks _ _ c.loop-clause.invariant.tasks w.in_ok-add_named.ensures.tasks);
        faults = clear_more c.args.project.now must_run_after_in c.args.clauses.now c.loop-clause.clause-index c.clause-item.result c.loop-clause-test.true c.clause-item.is
            w.in-Some.texts.now w.in-Some.ensures _ c.loop-clause.invariant.faults w.in_ok-add_named.ensures.faults;
      }
      | in_default w ↦ record {
        tasks = rw w.tasks-is (named_more c.args.project.now must_run_after_in c.args.clauses.now c.loop-clause.clause-index c.clause-item.result c.loop-clause-test.true c.clause-item.is
            [] w.in_default.ensures c.loop-clause.tasks c.loop-clause.tasks _ c.loop-clause.invariant.tasks refl);
        faults = clear_more c.args.project.now must_run_after_in c.args.clauses.now c.loop-clause.clause-index c.clause-item.result c.loop-clause-test.true c.clause-item.is
            [] w.in_default.ensures _ c.loop-clause.invariant.faults refl;
      }
    ]
