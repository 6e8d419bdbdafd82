use Rattle.std.proofs.Common.{◌≡◌, take}
use Rattle.std.specs.List.{AllZip}
use Rattle.gb_folder.specs.Calls.{Requests, no_change}
use Rattle.gb_records.specs.Texts.{IsStoredAt, WasStoredAt}
use Rattle.gb_records.proofs.stored_records.read_texts.Given as goal

abbrev pub invariant-loop-path : goal.invariant-loop-path
invariant-loop-path g l =
    let contents = g.F.Folder.device.contents in
    record {
      requests : Requests g.F.Folder.device no_change l.fn.folder l.folder;
      back : g.F.Folder.device.faithful l.folder → g.F.Folder.device.faithful l.fn.folder;
      same : g.F.Folder.device.faithful l.folder → contents l.folder ≡ contents l.fn.folder;
      answered : AllZip (WasStoredAt g.F.Folder.device l.fn.folder l.folder) (take l.path-index l.paths) l.texts.items;
      read : g.F.Folder.device.faithful l.folder → AllZip (IsStoredAt (contents l.fn.folder).files) (take l.path-index l.paths) l.texts.items;
    }
