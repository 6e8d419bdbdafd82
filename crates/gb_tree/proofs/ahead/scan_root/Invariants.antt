use Rattle.std.proofs.Common.{◌≡◌, ◌++◌}
use Rattle.gb_folder.specs.Calls.{Requests, no_change}
use Rattle.gb_tree.specs.Answered.{WereObserved}
use Rattle.gb_tree.specs.Waiting.{waiting_files}
use Rattle.gb_tree.proofs.ahead.scan_root.Given as goal

abbrev pub invariant-loop-place : goal.invariant-loop-place
invariant-loop-place g l =
    let F = g.F.Folder in
    let before = l.fn.files.items ++ waiting_files l.fn.waiting in
    let read = l.files.items ++ waiting_files l.waiting in
    record {
      requests : Requests F.device no_change l.fn.folder l.folder;
      back : F.device.faithful l.folder → F.device.faithful l.fn.folder;
      same : F.device.faithful l.folder → F.device.contents l.folder ≡ F.device.contents l.fn.folder;
      answered : (first : _) → Requests F.device no_change first l.fn.folder
          → WereObserved F.device first l.fn.folder before → WereObserved F.device first l.folder read;
    }
