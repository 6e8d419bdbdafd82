use Rattle.std.proofs.Common.{◌++◌, ◌∙◌}
use Rattle.gb_folder.proofs.Asked.{requests_then}
use Rattle.gb_tree.specs.Waiting.{waiting_files}
use Rattle.gb_tree.proofs.ahead.scan_roots.Goals as goal

pub loop-root-preserved : goal.loop-root-preserved
loop-root-preserved g c =
    let back = c.scan_root.ensures.reads.requests.back in
    let F = g.F.Folder in
    let so_far = c.loop-root.invariant in
    let read = c.loop-root.files.items ++ waiting_files c.loop-root.waiting in
    let after = c.scan_root.new.files.items ++ waiting_files c.in_ok-waiting.waiting in
    record {
      requests = requests_then so_far.requests c.scan_root.ensures.reads.requests;
      back = λ faithful. so_far.back (back faithful);
      same = λ faithful. c.scan_root.ensures.reads.same faithful ∙ so_far.same (back faithful);
      answered = c.in_ok-waiting.ensures.answered c.args.folder.now so_far.requests so_far.answered;
    }
