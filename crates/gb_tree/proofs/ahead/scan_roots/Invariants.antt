use Rattle.std.proofs.Common.{◌≡◌, ◌++◌}
use Rattle.gb_folder.specs.Calls.{Requests, no_change}
use Rattle.gb_tree.specs.Answered.{WereObserved}
use Rattle.gb_tree.specs.Waiting.{waiting_files}
use Rattle.gb_tree.proofs.ahead.scan_roots.Given as goal

abbrev pub invariant-loop-root : goal.invariant-loop-root
invariant-loop-root g l =
    let F = g.F.Folder in
    let read = l.files.items ++ waiting_files l.waiting in
    record {
      requests : Requests F.device no_change l.fn.folder l.folder;
      back : F.device.faithful l.folder → F.device.faithful l.fn.folder;
      same : F.device.faithful l.folder → F.device.contents l.folder ≡ F.device.contents l.fn.folder;
      answered : WereObserved F.device l.fn.folder l.folder read;
    }
