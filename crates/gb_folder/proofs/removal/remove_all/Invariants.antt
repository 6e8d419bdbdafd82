use Rattle.std.proofs.Common.{◌≡◌, [], Ok, take}
use Rattle.gb_folder.proofs.EachOf.{EachLed}
use Rattle.gb_folder.specs.Calls.{Requests, takes_at}
use Rattle.gb_folder.specs.Changes.{is_among, without_all}
use Rattle.gb_folder.specs.Removals.{Removal}
use Rattle.gb_folder.proofs.removal.remove_all.Given as goal

abbrev pub invariant-loop-place : goal.invariant-loop-place
invariant-loop-place g l =
    let contents = g.F.Folder.device.contents in
    record {
      led : EachLed Removal g.F.Folder.device (take l.place-index l.places) l.fn.folder [] (Ok tt) l.folder;
      requests : Requests g.F.Folder.device (takes_at (is_among l.places)) l.fn.folder l.folder;
      back : g.F.Folder.device.faithful l.folder → g.F.Folder.device.faithful l.fn.folder;
      removed : g.F.Folder.device.faithful l.folder → contents l.folder ≡ without_all (contents l.fn.folder) (take l.place-index l.places);
    }
