use Rattle.std.proofs.Common.{◌≡◌, ◌≤◌, ◌*◌, length, take}
use Rattle.sha2.specs.Hashers.{Holds256}
use Rattle.gb_tree.specs.Tree.{bytes_at}
use Rattle.gb_folder.specs.Calls.{Requests, no_change}
use Rattle.gb_tree.proofs.reading.digest_file.Given as goal

abbrev pub invariant-loop-index : goal.invariant-loop-index
invariant-loop-index g l =
    let contents = g.F.Folder.device.contents in
    let bytes = bytes_at (contents l.fn.folder).files l.place in
    record {
      requests : Requests g.F.Folder.device no_change l.fn.folder l.folder;
      back : g.F.Folder.device.faithful l.folder → g.F.Folder.device.faithful l.fn.folder;
      same : g.F.Folder.device.faithful l.folder → contents l.folder ≡ contents l.fn.folder;
      most : l.index ≤ 128;
      more : g.F.Folder.device.faithful l.folder → l.index * 65536 ≤ length bytes;
      held : g.F.Folder.device.faithful l.folder → Holds256 l.hasher (take (l.index * 65536) bytes);
    }
