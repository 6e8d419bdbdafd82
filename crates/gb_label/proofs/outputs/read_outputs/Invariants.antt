use Rattle.std.proofs.Common.{◌≡◌, [], take, map}
use Rattle.std.specs.List.{AllZip, flat_map}
use Rattle.gb_folder.specs.Calls.{Requests, no_change}
use Rattle.gb_plan.specs.Task.{is_output_of}
use Rattle.gb_tree.specs.DigestCache.{AreCached, AreCachedIn}
use Rattle.gb_label.specs.ReadingAnswered.{IsOutputAnswered}
use Rattle.gb_label.specs.Reading.{AreWithin, IsOutputObserved, print_faults, prints_read, recorded_of}
use Rattle.gb_label.proofs.outputs.read_outputs.Given as goal

abbrev pub invariant-loop-output : goal.invariant-loop-output
invariant-loop-output g l =
    let contents = g.F.Folder.device.contents in
    let old = contents l.fn.folder in
    let done = take l.output-index l.task.outputs in
    record {
      requests : Requests g.F.Folder.device no_change l.fn.folder l.folder;
      back : g.F.Folder.device.faithful l.folder → g.F.Folder.device.faithful l.fn.folder;
      same : g.F.Folder.device.faithful l.folder → contents l.folder ≡ old;
      named : map (λ reading. reading.0) l.readings.items ≡ map (λ output. output.name) done;
      within : AreWithin (is_output_of l.task) l.readings.items;
      answered : (first : _) → Requests g.F.Folder.device no_change first l.fn.folder
          → AreCached g.F.Folder.device first l.fn.folder l.seen
          → AllZip (IsOutputAnswered g.F.Folder.device first l.folder) done l.readings.items;
      prints : g.F.Folder.device.faithful l.folder → AreCachedIn old.files l.seen → prints_read l.readings.items ≡ map (λ output. (recorded_of old.files output).prints) done;
      observed : g.F.Folder.device.faithful l.folder → AreCachedIn old.files l.seen → AllZip (IsOutputObserved old.files) done l.readings.items;
      fit : g.F.Folder.device.faithful l.folder → AreCachedIn old.files l.seen → flat_map (print_faults old) done ≡ [];
    }
