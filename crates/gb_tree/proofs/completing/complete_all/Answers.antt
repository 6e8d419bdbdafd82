use Rattle.std.proofs.Common.{◌≡◌, ◌++◌, ◌∷◌, [], IsTrue, IfErr, ℕ, List, length, map, take, sym, ◌∙◌, ap, subst}
use Rattle.std.proofs.lemmas.Iterator.Adapters.{YieldsList-from_vec}
use Rattle.std.proofs.lemmas.Iterator.Consumers.{YieldsList-turn}
use Rattle.std.proofs.lemmas.List.{length_push}
use Rattle.std.proofs.lemmas.Result.{err_from_is_err_and}
use Rattle.std.specs.FinMap.Entries.{is_sorted, put}
use Rattle.gb_core.specs.Lists.{byte_order}
use Rattle.gb_folder.proofs.Asked.{requests_nothing, requests_then}
use Rattle.gb_folder.specs.Files.{Contents, Place}
use Rattle.gb_tree.specs.Answered.{IsTreeRead, WasObserved}
use Rattle.gb_tree.specs.Reading.{IsObservedIn, digests_observed, entries_observed}
use Rattle.gb_tree.specs.Tree.{IsTreeFaultOfMachine, bytes_at, contents_at, is_among}
use Rattle.gb_tree.proofs.Answering.{observed_longer}
use Rattle.gb_tree.proofs.Blame.{blamed_before}
use Rattle.gb_tree.proofs.Digests.{sorted_digests}
use Rattle.gb_tree.proofs.Gathering.{one_file_more}
use Rattle.gb_tree.proofs.InOrder.{sorted_alike}
use Rattle.gb_tree.proofs.Refused.{at_err, machine_before}
use Rattle.gb_tree.proofs.Observed.{all_at, contents_more, digest_more, path_more, paths_observed, put_observed, observed_among, sorted_prefix}
use Rattle.gb_tree.specs.declared.kept.ScannedFile.{ScannedFile}
use Rattle.gb_tree.proofs.completing.complete_all.Goals as goal

pub returns-in_err-made-clause-blame : goal.returns-in_err-made-clause-blame
returns-in_err-made-clause-blame g c =
    let p = err_from_is_err_and c.from_residual-in_err-made.result c.from_residual-in_err-made.ensures.1 in
    let xs = c.args.observed.items in
    let x = c.in-Some.one in
    let gives = c.into_iter-one-iterator.ensures.into_iter_gives in
    let turn = YieldsList-turn (YieldsList-from_vec {s = c.into_iter-one-iterator.result} xs gives.0 (gives.1 ∙ c.args.observed.ok.0)) c.loop-one.yielded c.loop-one.one-iterator c.loop-one.yielded_by c.next.result c.next.new.self x c.in-Some.is c.next.ensures.steps in
    blamed_before (λ at. at ≡ x.place) (λ at. IsTrue (is_among (entries_observed xs) at)) _ _ _ _ c.in_err-made.field-0.0 p.0 c.loop-one.invariant.requests.count c.in_err-made.ensures.reads.requests.count p.1 p.2
    (λ at same. subst (λ (place : Place). IsTrue (is_among (entries_observed xs) place)) (sym same) (observed_among xs (length c.loop-one.yielded) x turn.0 turn.1)) c.in_err-made.ensures.blame

pub returns-in_err-made-clause-err : goal.returns-in_err-made-clause-err
returns-in_err-made-clause-err g c = λ faithful all.
    let p = err_from_is_err_and c.from_residual-in_err-made.result c.from_residual-in_err-made.ensures.1 in
    let failures = g.F.Folder.device.failures in
    let xs = c.args.observed.items in
    let x = c.in-Some.one in
    let gives = c.into_iter-one-iterator.ensures.into_iter_gives in
    let turn = YieldsList-turn (YieldsList-from_vec {s = c.into_iter-one-iterator.result} xs gives.0 (gives.1 ∙ c.args.observed.ok.0)) c.loop-one.yielded c.loop-one.one-iterator c.loop-one.yielded_by c.next.result c.next.new.self x c.in-Some.is c.next.ensures.steps in
    let is_observed = all_at (IsObservedIn (g.F.Folder.device.contents c.args.folder.now).files) xs (length c.loop-one.yielded) x turn.0 turn.1 all in
    at_err (λ r. IfErr r (IsTreeFaultOfMachine (failures c.args.folder.now) (failures c.complete.new.folder))) c.from_residual-in_err-made.result p.0 c.in_err-made.field-0.0 p.1 p.2
    (machine_before _ _ _ _ c.loop-one.invariant.requests.count c.in_err-made.ensures.reads.requests.count
    (c.in_err-made.ensures.err faithful (subst (λ (now : Contents). IsObservedIn now.files x) (sym (c.loop-one.invariant.same (c.complete.ensures.reads.requests.back faithful))) is_observed)))

pub loop-one-preserved : goal.loop-one-preserved
loop-one-preserved g c =
    let back = c.complete.ensures.reads.requests.back in
    let old = (g.F.Folder.device.contents c.args.folder.now).files in
    let so_far = c.loop-one.invariant in
    let xs = c.args.observed.items in
    let x = c.in-Some.one in
    let n = length c.loop-one.yielded in
    let tree = c.loop-one.files in
    let bytes = c.in_ok-made.made.1 in
    let gives = c.into_iter-one-iterator.ensures.into_iter_gives in
    let turn = YieldsList-turn (YieldsList-from_vec {s = c.into_iter-one-iterator.result} xs gives.0 (gives.1 ∙ c.args.observed.ok.0)) c.loop-one.yielded c.loop-one.one-iterator c.loop-one.yielded_by c.next.result c.next.new.self x c.in-Some.is c.next.ensures.steps in
    let next = sym (length_push c.loop-one.yielded x) in
    let more = c.in_ok-add.ensures.files ∙ ap (λ path. put byte_order path bytes tree) c.in_ok-made.ensures.path ∙ put_observed xs n x tree bytes turn.0 turn.1 c.requires.in_order so_far.paths in
    record {
      can_next = tt;
      is_finite = tt;
      requests = requests_then so_far.requests c.complete.ensures.reads.requests;
      back = λ faithful. so_far.back (back faithful);
      same = λ faithful. c.complete.ensures.reads.same faithful ∙ so_far.same (back faithful);
      digests = digest_more tree _ c.loop-one.digests.items _ x.path bytes c.in_ok-made.made.2 c.in_ok-made.made.0 so_far.digests c.in_ok-add.ensures.digests c.in_ok-made.ensures.path c.in_ok-made.ensures.digest more;
      paths = ap (map (λ (file : List ℕ × List ℕ). file.0)) more ∙ path_more xs n x tree bytes turn.0 turn.1 so_far.paths ∙ ap (λ k. map (λ (file : ScannedFile). file.path) (take k xs)) next;
      answered = λ first before observed.
          let was = all_at (WasObserved g.F.Folder.device first c.args.folder.now) xs n x turn.0 turn.1 observed in
          subst (λ (k : ℕ). IsTreeRead g.F.Folder.device first c.complete.new.folder (entries_observed (take k xs)) c.add.new.files) next
          (one_file_more xs n x tree _ bytes turn.0 turn.1 c.complete.ensures.reads.requests (so_far.answered first before observed)
          (c.in_ok-made.ensures.answered first (requests_then before so_far.requests) (observed_longer (requests_nothing first) so_far.requests x was)) more);
      read = λ faithful all.
          let is_observed = all_at (IsObservedIn old) xs n x turn.0 turn.1 all in
          more
          ∙ ap (λ b. tree ++ (x.path, b) ∷ []) (c.in_ok-made.ensures.read faithful (subst (λ (now : Contents). IsObservedIn now.files x) (sym (so_far.same (back faithful))) is_observed) ∙ ap (λ now. bytes_at now.files x.place) (so_far.same (back faithful)))
          ∙ ap (λ files. files ++ (x.path, bytes_at old x.place) ∷ []) (so_far.read (back faithful) all)
          ∙ contents_more old xs n x turn.0 turn.1
          ∙ ap (λ k. contents_at old (entries_observed (take k xs))) next;
    }

pub returns-clause-ordered : goal.returns-clause-ordered
returns-clause-ordered g c =
    let xs = c.args.observed.items in
    let n = length c.loop-one.yielded in
    let tree = c.loop-one.files in
    ap (is_sorted byte_order) c.loop-one.invariant.digests ∙ sorted_digests tree
    ∙ sorted_alike tree (digests_observed (take n xs)) (c.loop-one.invariant.paths ∙ paths_observed (take n xs)) ∙ sorted_prefix xs n c.requires.in_order
