use Rattle.std.proofs.Common.{◌≡◌, take}
use Rattle.std.specs.List.{AllZip}
use Rattle.gb_folder.specs.Calls.{Requests, no_change}
use Rattle.gb_query.specs.Inventory.{IsEntryOf}
use Rattle.gb_query.proofs.inventory.entries_of.Given as goal

abbrev pub invariant-loop-place : goal.invariant-loop-place
invariant-loop-place g l =
    let F = g.F.Folder in
    record {
      requests : Requests F.device no_change l.fn.folder l.folder;
      back : F.device.faithful l.folder → F.device.faithful l.fn.folder;
      same : F.device.faithful l.folder → F.device.contents l.folder ≡ F.device.contents l.fn.folder;
      entries : F.device.faithful l.folder → AllZip (IsEntryOf (F.device.contents l.fn.folder).files l.registered) (take l.place-index l.places) l.entries.items;
    }
