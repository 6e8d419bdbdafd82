use Rattle.std.proofs.Common.{◌≡◌, length, map, take}
use Rattle.std.specs.List.{AllByRecursion, AllZip}
use Rattle.gb_folder.specs.Calls.{Requests, no_change}
use Rattle.gb_label.specs.ReadingAnswered.{IsInputAnswered, IsInputRead}
use Rattle.gb_label.specs.Reading.{digests_in}
use Rattle.gb_label.proofs.Readings.{Persists, tree_made}
use Rattle.gb_label.proofs.inputs.complete_inputs.Given as goal

abbrev pub invariant-loop-reading : goal.invariant-loop-reading
invariant-loop-reading g l =
    let contents = g.F.Folder.device.contents in
    let old = (contents l.fn.folder).files in
    let done = take (length l.yielded) l.fn.readings.items in
    record {
      can_next : (goal.iterator-loop-reading g).can_next l.reading-iterator;
      is_finite : (goal.iterator-loop-reading g).is_finite l.reading-iterator;
      requests : Requests g.F.Folder.device no_change l.fn.folder l.folder;
      back : g.F.Folder.device.faithful l.folder → g.F.Folder.device.faithful l.fn.folder;
      same : g.F.Folder.device.faithful l.folder → contents l.folder ≡ contents l.fn.folder;
      named : map (λ tree. tree.0) l.trees ≡ map (λ reading. reading.0) done;
      digests : l.prints.items ≡ digests_in l.trees;
      answered : (first : _) → Requests g.F.Folder.device no_change first l.fn.folder
          → AllZip (IsInputAnswered g.F.Folder.device first l.fn.folder) l.task.files l.fn.readings.items
          → AllZip (IsInputRead g.F.Folder.device first l.folder) (take (length l.yielded) l.task.files) l.trees;
      trees : g.F.Folder.device.faithful l.folder → AllByRecursion (Persists old) l.fn.readings.items → l.trees ≡ map (tree_made old) done;
    }
