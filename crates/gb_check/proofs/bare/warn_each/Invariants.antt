use Rattle.std.proofs.Common.{◌≡◌, take}
use Rattle.std.specs.List.{flat_map}
use Rattle.gb_folder.specs.Calls.{Requests, no_change}
use Rattle.gb_check.specs.Warnings.{bare_root}
use Rattle.gb_check.proofs.bare.warn_each.Given as goal

abbrev pub invariant-loop-rooted : goal.invariant-loop-rooted
invariant-loop-rooted g l =
    let contents = g.F.Folder.device.contents in
    let faithful = g.F.Folder.device.faithful in
    record {
      requests : Requests g.F.Folder.device no_change l.fn.folder l.folder;
      back : faithful l.folder → faithful l.fn.folder;
      same : faithful l.folder → contents l.folder ≡ contents l.fn.folder;
      found : faithful l.folder → l.found.items ≡ flat_map (bare_root l.sites (contents l.fn.folder) l.outputs) (take l.rooted-index l.roots);
    }
