use Rattle.gb_folder.proofs.Asked.{requests_nothing}
use Rattle.gb_tree.proofs.Answering.{all_observed_longer}
use Rattle.gb_tree.proofs.Remembering.{files_remembered, seen_longer}
use Rattle.gb_tree.proofs.ahead.read_ahead.Goals as goal

pub returns-in-Ok-clause-seen : goal.returns-in-Ok-clause-seen
returns-in-Ok-clause-seen g c = λ since before was.
    let F = g.F.Folder in
    let now = c.scan_roots.new.folder in
    files_remembered F.device since now c.add.new.self c.args.seen.now c.in-Ok.files.items c.add.ensures
    (seen_longer (requests_nothing since) c.scan_roots.ensures.reads.requests c.args.seen.now was)
    (all_observed_longer before (requests_nothing now) c.in-Ok.files.items c.in-Ok.ensures.answered)

pub returns-in-Err-clause-seen : goal.returns-in-Err-clause-seen
returns-in-Err-clause-seen g c = λ since before was. seen_longer (requests_nothing since) c.scan_roots.ensures.reads.requests c.args.seen.now was
