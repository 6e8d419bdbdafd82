use Rattle.std.proofs.Common.{◌++◌, List, ap, sym, subst, ◌∙◌}
use Rattle.gb_folder.proofs.Asked.{requests_nothing, requests_then}
use Rattle.gb_tree.specs.Answered.{WasObserved, WereObserved}
use Rattle.gb_tree.specs.Waiting.{file_in, waiting_files}
use Rattle.gb_tree.specs.declared.kept.ScannedFile.{ScannedFile}
use Rattle.gb_tree.proofs.Answering.{all_observed_longer, observed_longer}
use Rattle.gb_tree.proofs.Observed.{each_more}
use Rattle.gb_tree.proofs.ahead.scan_root.Goals as goal
use Rattle.gb_tree.proofs.ahead.scan_root.Goals.{in-Some+in_ok-waiting-in-Some, in-None}

pub loop-place-init : goal.loop-place-init
loop-place-init g c = record {
  requests = c.few_at-places.ensures.reads.requests;
  back = c.few_at-places.ensures.reads.requests.back;
  same = c.few_at-places.ensures.reads.same;
  answered = λ first earlier were. all_observed_longer (requests_nothing first) c.few_at-places.ensures.reads.requests (c.args.files.now.items ++ waiting_files c.args.waiting) were;
}

pub loop-place-preserved : goal.loop-place-preserved
loop-place-preserved g c =
    let back = c.scan_place.ensures.reads.requests.back in
    let F = g.F.Folder in
    let so_far = c.loop-place.invariant in
    let now = c.scan_place.new.folder in
    let read = c.loop-place.files.items ++ waiting_files c.loop-place.waiting in
    let then = c.match-scan_place in
    let after = then.files.items ++ waiting_files then.waiting in
    record {
      requests = requests_then so_far.requests c.scan_place.ensures.reads.requests;
      back = λ faithful. so_far.back (back faithful);
      same = λ faithful. c.scan_place.ensures.reads.same faithful ∙ so_far.same (back faithful);
      answered = λ first earlier were.
          let before = all_observed_longer (requests_nothing first) c.scan_place.ensures.reads.requests read (so_far.answered first earlier were) in
          elim then.branch [
            | in-Some+in_ok-waiting-in-Some w ↦ each_more (WasObserved F.device first now) read after (file_in w.in-Some.found)
                (ap (λ files. files.items ++ waiting_files then.waiting) w.files-is ∙ ap (λ those. w.add.new.observed.items ++ waiting_files those) w.waiting-is ∙ w.in_ok-waiting-in-Some.ensures)
                before (observed_longer (requests_then earlier so_far.requests) (requests_nothing now) (file_in w.in-Some.found) w.in-Some.ensures.answered)
            | in-None w ↦ subst (λ (those : List ScannedFile). WereObserved F.device first now those)
                (sym (ap (λ files. files.items ++ waiting_files then.waiting) w.files-is ∙ ap (λ those. c.loop-place.files.items ++ waiting_files those) w.waiting-is)) before
          ];
    }
