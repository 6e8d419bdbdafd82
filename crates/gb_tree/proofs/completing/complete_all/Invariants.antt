use Rattle.std.proofs.Common.{◌≡◌, length, map, take}
use Rattle.std.specs.List.{AllByRecursion}
use Rattle.gb_folder.specs.Calls.{Requests, no_change}
use Rattle.gb_tree.specs.Answered.{IsTreeRead, WereObserved}
use Rattle.gb_tree.specs.Prints.{digests_of}
use Rattle.gb_tree.specs.Reading.{IsObservedIn, entries_observed}
use Rattle.gb_tree.specs.Tree.{contents_at}
use Rattle.gb_tree.proofs.completing.complete_all.Given as goal

abbrev pub invariant-loop-one : goal.invariant-loop-one
invariant-loop-one g l =
    let contents = g.F.Folder.device.contents in
    let old = (contents l.fn.folder).files in
    let done = take (length l.yielded) l.fn.observed.items in
    record {
      can_next : (goal.iterator-loop-one g).can_next l.one-iterator;
      is_finite : (goal.iterator-loop-one g).is_finite l.one-iterator;
      requests : Requests g.F.Folder.device no_change l.fn.folder l.folder;
      back : g.F.Folder.device.faithful l.folder → g.F.Folder.device.faithful l.fn.folder;
      same : g.F.Folder.device.faithful l.folder → contents l.folder ≡ contents l.fn.folder;
      digests : l.digests.items ≡ digests_of l.files;
      paths : map (λ file. file.0) l.files ≡ map (λ file. file.path) done;
      answered : (first : _) → Requests g.F.Folder.device no_change first l.fn.folder
          → WereObserved g.F.Folder.device first l.fn.folder l.fn.observed.items
          → IsTreeRead g.F.Folder.device first l.folder (entries_observed done) l.files;
      read : g.F.Folder.device.faithful l.folder → AllByRecursion (IsObservedIn old) l.fn.observed.items → l.files ≡ contents_at old (entries_observed done);
    }
