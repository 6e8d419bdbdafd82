use Rattle.std.proofs.Common.{◌≡◌, IsTrue}
use Rattle.std.specs.List.{AllByRecursion}
use Rattle.std.specs.FinMap.Entries.{is_sorted}
use Rattle.std.specs.VecDeque.Iter.{deque_iter_rest}
use Rattle.gb_core.specs.Lists.{byte_order}
use Rattle.gb_action.specs.Files.{Trees}
use Rattle.gb_folder.specs.Files.{Files, are_placed}
use Rattle.gb_plan.specs.Ready.{IsReadyAction}
use Rattle.gb_plan.specs.Task.{is_output_of}
use Rattle.gb_semantics.specs.Headline.{Agrees}
use Rattle.gb_semantics.specs.Kinds.{Kinds}
use Rattle.gb_run.specs.Asking.{IsFullRequest}
use Rattle.gb_run.specs.AskingChanges.{CanGoOn, GoesOn}
use Rattle.gb_run.specs.WorkByChanges.{increment_of}
use Rattle.gb_run.specs.Worked.{AreStepsAt}
use Rattle.gb_run.proofs.Reporting.{IsReporting}
use Rattle.gb_run.proofs.WorkingBy.{IsWorkingBy}
use Rattle.gb_run.proofs.work_by_changes.work_by_changes.Given as goal

abbrev pub invariant-loop-action : goal.invariant-loop-action
invariant-loop-action g l =
    let left = deque_iter_rest l.action-iterator in
    record {
      full : IsFullRequest l.task l.fn.files l.fn.changes l.working.request;
      observed : l.working.observed ≡ l.fn.outputs;
      ready : AllByRecursion (IsReadyAction g.A.Actions.meanings l.table l.task) left;
      able : AllByRecursion (CanGoOn g.A.Actions.meanings l.table) left;
      places : AllByRecursion (AreStepsAt (is_output_of l.task)) l.parts.items;
      works : (kinds : Kinds) → Agrees g.A.Actions.meanings l.table kinds
          → IsWorkingBy (increment_of kinds l.task l.fn.files l.fn.changes l.fn.outputs) left l.parts.items;
      makes : (kinds : Kinds) → Agrees g.A.Actions.meanings l.table kinds → (old : Trees) (existing : Files)
          → IsTrue (is_sorted byte_order existing) → IsTrue (are_placed existing) → GoesOn kinds l.task old l.fn.files l.fn.changes l.fn.outputs existing
          → IsReporting kinds l.task l.fn.files l.fn.changes existing left l.working.digests;
    }
