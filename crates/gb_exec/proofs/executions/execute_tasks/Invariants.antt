use Rattle.std.proofs.Common.{◌≡◌, ◌≤◌, Bool, false, List, [], IsTrue, drop, length, map, take}
use Rattle.std.specs.List.{AllByRecursion, AllZip, flat_map}
use Rattle.std.specs.Vec.{vec_capacity}
use Rattle.std.specs.Vec.Iter.{into_iter_items}
use Rattle.gb_folder.specs.Files.{Bytes}
use Rattle.gb_exec.specs.Notifying.{AllReported}
use Rattle.gb_semantics.specs.Headline.{HasFailed}
use Rattle.gb_semantics.specs.Kinds.{Kinds}
use Rattle.gb_semantics.specs.Memory.{Memory}
use Rattle.gb_semantics.specs.Outline.{AreOutlines}
use Rattle.gb_semantics.specs.Execution.{heard_of}
use Rattle.gb_plan.specs.Graph.{order}
use Rattle.gb_printer.specs.Printing.{Prints}
use Rattle.gb_report.specs.Report.{task_text}
use Rattle.gb_exec.specs.Plans.{AreEndings, AreOfPlan}
use Rattle.gb_records.specs.Assumed.{IsAssumed}
use Rattle.gb_task.specs.Executing.{Registering}
use Rattle.gb_exec.proofs.Asking.{AreSoFar}
use Rattle.gb_exec.specs.Built.{AreTrueBefore}
use Rattle.gb_exec.specs.Failing.{times_attributed}
use Rattle.gb_exec.specs.Reports.{IsOf}
use Rattle.gb_exec.proofs.Shut.{HasOwnPlaces}
use Rattle.gb_exec.proofs.Underway.{IsUnderway, outcome_in}
use Rattle.gb_exec.proofs.executions.execute_tasks.Given as goal

abbrev pub invariant-loop-path : goal.invariant-loop-path
invariant-loop-path g l =
    let F = g.F.Folder in
    let P = g.P.Printer in
    let ear = g.L.TaskListener.ear in
    let tasks = l.build.tasks.now in
    let start = l.fn.folder in
    let done = take l.index tasks in
    record {
      left : into_iter_items l.path-iterator ≡ order (drop l.index tasks);
      within : l.index ≤ length tasks;
      room : length tasks ≤ vec_capacity l.reports;
      long : length l.reports.items ≡ l.index;
      of_plan : AreOfPlan tasks l.starts;
      lasting : length l.starts.endings ≡ length tasks;
      endings : AreEndings tasks (map outcome_in l.reports.items) l.starts.endings;
      of_tasks : AllZip IsOf done l.reports.items;
      outline : AreOutlines l.build.options tasks [] done l.reports.items;
      places : AllByRecursion HasOwnPlaces done;
      heard : AllReported (heard_of false l.reports.items) l.all_heard (map ear l.fn.listeners.items) (map ear l.listeners.items);
      printed : Prints P.contents P.whole (flat_map task_text l.reports.items) l.fn.printer l.printer;
      requests : AreSoFar F.device g.A.Actions.meanings l.build.table.now l.build.options done (take l.index l.build.records.now) l.reports.items start l.folder l.seen;
      device : HasFailed (times_attributed l.reports.items) (F.device.failures start) (F.device.failures l.folder);
      build : F.device.faithful l.folder → (kinds : Kinds) (registry_of : Registering) (remembered : Memory) (clear : Bool) (observed : List Bytes) → IsAssumed g.A.Actions.meanings l.build.table.now kinds (F.device.may_leave start)
          → (IsTrue clear → AreTrueBefore kinds tasks l.build.records.now observed (F.device.contents start) remembered)
          → IsUnderway kinds registry_of (F.device.may_leave start) clear observed l.build.options tasks
          (record { contents = F.device.contents start; remembered = remembered; failures = F.device.failures start }) done (drop l.index tasks) l.reports.items
          (record { contents = F.device.contents l.folder; failures = F.device.failures l.folder });
    }
