use Rattle.std.proofs.Common.{◌≡◌, ◌++◌, IsTrue, drop, take}
use Rattle.std.specs.List.{AllByRecursion, list_all}
use Rattle.gb_core.specs.Lists.{first_of}
use Rattle.gb_folder.specs.Calls.{Requests, no_change}
use Rattle.gb_tree.specs.Answered.{WereObserved}
use Rattle.gb_tree.specs.Reading.{IsObservedIn, entries_observed, is_digest_of}
use Rattle.gb_tree.specs.DigestCache.{AreCached, AreCachedIn}
use Rattle.gb_tree.specs.Tree.{too_large}
use Rattle.gb_tree.specs.Waiting.{waiting_files}
use Rattle.gb_tree.proofs.scanning.scan_all.Given as goal

abbrev pub invariant-loop-path : goal.invariant-loop-path
invariant-loop-path g l =
    let contents = g.F.Folder.device.contents in
    let old = (contents l.fn.folder).files in
    let read = l.observed.items ++ waiting_files l.waiting in
    record {
      requests : Requests g.F.Folder.device no_change l.fn.folder l.folder;
      back : g.F.Folder.device.faithful l.folder → g.F.Folder.device.faithful l.fn.folder;
      same : g.F.Folder.device.faithful l.folder → contents l.folder ≡ contents l.fn.folder;
      answered : (first : _) → Requests g.F.Folder.device no_change first l.fn.folder
          → AreCached g.F.Folder.device first l.fn.folder l.seen
          → WereObserved g.F.Folder.device first l.folder read;
      placed : entries_observed read ≡ take l.path-index l.entries;
      digested : IsTrue (list_all (λ file. is_digest_of file.kept file.digest) read);
      each : g.F.Folder.device.faithful l.folder → AreCachedIn old l.seen → AllByRecursion (IsObservedIn old) read;
      large : g.F.Folder.device.faithful l.folder → AreCachedIn old l.seen → first_of (too_large old (drop l.path-index l.entries)) ≡ first_of (too_large old l.entries);
    }
