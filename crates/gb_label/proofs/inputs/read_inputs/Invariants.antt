use Rattle.std.proofs.Common.{◌≡◌, [], take, map}
use Rattle.std.specs.List.{AllZip, flat_map}
use Rattle.gb_folder.specs.Calls.{Requests, no_change}
use Rattle.gb_tree.specs.Prints.{digests_of}
use Rattle.gb_tree.specs.DigestCache.{AreCached, AreCachedIn}
use Rattle.gb_semantics.specs.Tree.{tree_faults, tree_of}
use Rattle.gb_label.specs.ReadingAnswered.{IsInputAnswered}
use Rattle.gb_label.specs.Reading.{AreWithin, IsPropertyObserved, is_input_of, prints_read}
use Rattle.gb_label.proofs.inputs.read_inputs.Given as goal

abbrev pub invariant-loop-property : goal.invariant-loop-property
invariant-loop-property g l =
    let contents = g.F.Folder.device.contents in
    let old = contents l.fn.folder in
    let done = take l.property-index l.task.files in
    record {
      requests : Requests g.F.Folder.device no_change l.fn.folder l.folder;
      back : g.F.Folder.device.faithful l.folder → g.F.Folder.device.faithful l.fn.folder;
      same : g.F.Folder.device.faithful l.folder → contents l.folder ≡ old;
      named : map (λ reading. reading.0) l.readings.items ≡ map (λ property. property.name) done;
      within : AreWithin (is_input_of l.task) l.readings.items;
      answered : (first : _) → Requests g.F.Folder.device no_change first l.fn.folder
          → AreCached g.F.Folder.device first l.fn.folder l.seen
          → AllZip (IsInputAnswered g.F.Folder.device first l.folder) done l.readings.items;
      prints : g.F.Folder.device.faithful l.folder → AreCachedIn old.files l.seen → prints_read l.readings.items ≡ map (λ property. (property.name, digests_of (tree_of property old.files))) done;
      observed : g.F.Folder.device.faithful l.folder → AreCachedIn old.files l.seen → AllZip (IsPropertyObserved old.files) done l.readings.items;
      fit : g.F.Folder.device.faithful l.folder → AreCachedIn old.files l.seen → flat_map (λ property. tree_faults property old) done ≡ [];
    }
