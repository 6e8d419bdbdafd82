use Rattle.std.proofs.Common.{◌≡◌, ◌++◌, IsTrue, Ok, drop, take}
use Rattle.gb_folder.proofs.EachOf.{EachLed}
use Rattle.std.specs.List.{list_all}
use Rattle.gb_folder.specs.Calls.{Requests, no_change}
use Rattle.gb_run.specs.Emptying.{Listing, is_at_output, special_faults, places_at}
use Rattle.gb_run.proofs.emptying.listed_outputs.Given as goal

abbrev pub invariant-loop-output : goal.invariant-loop-output
invariant-loop-output g l =
    let old = g.F.Folder.device.contents l.fn.folder in
    record {
      led : EachLed Listing g.F.Folder.device (take l.output-index l.outputs) l.fn.folder l.places.items (Ok tt) l.folder;
      requests : Requests g.F.Folder.device no_change l.fn.folder l.folder;
      under : IsTrue (list_all (is_at_output l.outputs) l.places.items);
      back : g.F.Folder.device.faithful l.folder → g.F.Folder.device.faithful l.fn.folder;
      same : g.F.Folder.device.faithful l.folder → g.F.Folder.device.contents l.folder ≡ old;
      listed : g.F.Folder.device.faithful l.folder → l.places.items ++ places_at (drop l.output-index l.outputs) old.files ≡ places_at l.outputs old.files;
      special : g.F.Folder.device.faithful l.folder → special_faults (drop l.output-index l.outputs) old ≡ special_faults l.outputs old;
    }
