use Rattle.std.proofs.Common.{◌≡◌}
use Rattle.std.specs.List.{AllByRecursion}
use Rattle.std.specs.VecDeque.Iter.{deque_iter_rest}
use Rattle.gb_plan.specs.Ready.{IsReadyAction}
use Rattle.gb_semantics.specs.Headline.{Agrees}
use Rattle.gb_semantics.specs.Kinds.{Kinds}
use Rattle.gb_semantics.specs.Label.{has_one_writer}
use Rattle.gb_run.specs.AskingChanges.{CanGoOn}
use Rattle.gb_run.proofs.OneWriter.{only}
use Rattle.gb_run.proofs.calling_changes.has_one_writer.Given as goal

abbrev pub invariant-loop-action : goal.invariant-loop-action
invariant-loop-action g l =
    let left = deque_iter_rest l.action-iterator in
    let meanings = g.A.Actions.meanings in
    record {
      ready : AllByRecursion (IsReadyAction meanings l.table l.task) left;
      agreed : (kinds : Kinds) → Agrees meanings l.table kinds → has_one_writer kinds l.task.actions ≡ only kinds l.found left;
      able : AllByRecursion (CanGoOn meanings l.table) left → AllByRecursion (CanGoOn meanings l.table) l.task.actions;
    }
