use Rattle.std.proofs.Common.{◌≡◌, ◌++◌, List, length}
use Rattle.std.specs.List.{AllZip}
use Rattle.gb_folder.specs.Calls.{Requests, no_change}
use Rattle.gb_plan.specs.Task.{Path}
use Rattle.gb_records.specs.Answered.{WasAnswered}
use Rattle.gb_records.specs.Said.{IsReadAt}
use Rattle.gb_records.proofs.stored_records.read_records.Given as goal

-- the records so far are those of the tasks before the rest
abbrev pub invariant-fours : goal.invariant-fours
invariant-fours g l =
    let F = g.F.Folder in
    record {
      requests : Requests F.device no_change l.fn.folder l.folder;
      back : F.device.faithful l.folder → F.device.faithful l.fn.folder;
      same : F.device.faithful l.folder → F.device.contents l.folder ≡ F.device.contents l.fn.folder;
      done : (done : List Path) × (done ++ l.rest ≡ l.paths)
          × AllZip (WasAnswered F.device l.fn.folder l.folder) done l.records.items
          × (F.device.faithful l.folder → AllZip (IsReadAt (F.device.contents l.fn.folder).files) done l.records.items);
    }

abbrev pub decreases-fours : goal.decreases-fours
decreases-fours g l = length l.rest
