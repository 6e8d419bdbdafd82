use Rattle.std.proofs.Common.{◌≡◌, drop, take}
use Rattle.gb_core.specs.Lists.{first_of}
use Rattle.gb_tree.specs.Tree.{contents_at, too_large}
use Rattle.gb_folder.specs.Calls.{Requests, no_change}
use Rattle.gb_tree.proofs.reading.read_all.Given as goal

abbrev pub invariant-loop-path : goal.invariant-loop-path
invariant-loop-path g l =
    let contents = g.F.Folder.device.contents in
    let old = (contents l.fn.folder).files in
    record {
      requests : Requests g.F.Folder.device no_change l.fn.folder l.folder;
      back : g.F.Folder.device.faithful l.folder → g.F.Folder.device.faithful l.fn.folder;
      same : g.F.Folder.device.faithful l.folder → contents l.folder ≡ contents l.fn.folder;
      read : g.F.Folder.device.faithful l.folder → l.files ≡ contents_at old (take l.path-index l.entries);
      large : g.F.Folder.device.faithful l.folder → first_of (too_large old (drop l.path-index l.entries)) ≡ first_of (too_large old l.entries);
    }
