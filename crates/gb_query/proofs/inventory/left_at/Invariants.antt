use Rattle.std.proofs.Common.{◌≡◌, ◌++◌, List, drop}
use Rattle.gb_folder.specs.Calls.{Requests, no_change}
use Rattle.gb_plan.specs.Task.{Path}
use Rattle.gb_query.specs.Inventory.{AreLeftAt}
use Rattle.gb_query.proofs.inventory.left_at.Given as goal

abbrev pub invariant-loop-place : goal.invariant-loop-place
invariant-loop-place g l =
    let F = g.F.Folder in
    record {
      requests : Requests F.device no_change l.fn.folder l.folder;
      back : F.device.faithful l.folder → F.device.faithful l.fn.folder;
      same : F.device.faithful l.folder → F.device.contents l.folder ≡ F.device.contents l.fn.folder;
      left : F.device.faithful l.folder → (more : List Path) → AreLeftAt (F.device.contents l.fn.folder).files l.registered (drop l.place-index l.places) more → AreLeftAt (F.device.contents l.fn.folder).files l.registered l.places (l.left.items ++ more);
    }
