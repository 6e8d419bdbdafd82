use Rattle.std.proofs.Common.{[], IsTrue}
use Rattle.std.specs.List.{AllByRecursion}
use Rattle.std.specs.VecDeque.Iter.{deque_iter_rest}
use Rattle.gb_folder.specs.Files.{are_placed}
use Rattle.gb_plan.specs.Ready.{IsReadyAction}
use Rattle.gb_plan.specs.Task.{is_output_of}
use Rattle.gb_semantics.specs.Headline.{Agrees}
use Rattle.gb_semantics.specs.Kinds.{Kinds}
use Rattle.gb_run.specs.Asking.{IsFullRequest}
use Rattle.gb_run.specs.RunInput.{run_input}
use Rattle.gb_run.specs.Worked.{AreStepsAt}
use Rattle.gb_run.proofs.Working.{IsWorking}
use Rattle.gb_run.proofs.work.work_in_full.Given as goal

abbrev pub invariant-loop-action : goal.invariant-loop-action
invariant-loop-action g l =
    let left = deque_iter_rest l.action-iterator in
    record {
      full : IsFullRequest l.task l.fn.files l.fn.changes l.working.request;
      placed : IsTrue (are_placed l.working.taken);
      ready : AllByRecursion (IsReadyAction g.A.Actions.meanings l.table l.task) left;
      places : AllByRecursion (AreStepsAt (is_output_of l.task)) l.parts.items;
      works : (kinds : Kinds) → Agrees g.A.Actions.meanings l.table kinds
          → IsWorking (run_input kinds l.task l.fn.files l.fn.changes []) left l.working.taken l.working.digests l.parts.items;
    }
