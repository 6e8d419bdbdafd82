use Rattle.std.proofs.Common.{arith, ◌≡◌, ◌+◌, ◌++◌, ◌∷◌, inl, inr, true, IsTrue, Some, ℕ, List, map, cond, drop, refl, sym, ◌∙◌, ap, subst}
use Rattle.std.proofs.lemmas.List.{take_all}
use Rattle.std.specs.List.{filter}
use Rattle.std.specs.Prelude.{IsSome}
use Rattle.gb_core.specs.Lists.{first_of}
use Rattle.gb_folder.proofs.Asked.{requests_nothing, requests_then}
use Rattle.gb_folder.specs.Files.{Contents, Place, file_at}
use Rattle.gb_tree.specs.Answered.{WasObserved}
use Rattle.gb_tree.specs.Reading.{IsReading, IsObservedIn, is_digest_of}
use Rattle.gb_tree.specs.DigestCache.{AreCachedIn}
use Rattle.gb_tree.specs.Tree.{is_among, is_large, too_large}
use Rattle.gb_tree.specs.Waiting.{file_in, waiting_files}
use Rattle.gb_tree.specs.declared.fault.TreeFault.TheVariants as faults
use Rattle.gb_tree.specs.declared.kept.ScannedFile.{ScannedFile}
use Rattle.gb_tree.proofs.Answering.{all_observed_longer}
use Rattle.gb_tree.proofs.Blame.{at_entry, blamed_before}
use Rattle.gb_tree.proofs.Loops.{step_here}
use Rattle.gb_tree.proofs.Refused.{machine_before}
use Rattle.gb_tree.proofs.Observed.{all_at, each_more, placed_more, observed_sorted, test_more}
use Rattle.gb_tree.proofs.Remembering.{seen_longer}
use Rattle.gb_tree.proofs.scanning.scan_all.Goals as goal

pub returns-in-Err-clause-blame : goal.returns-in-Err-clause-blame
returns-in-Err-clause-blame g c =
    let entries = c.args.entries.now in
    let entry = c.loop-path-item.result in
    blamed_before (λ at. at ≡ entry.1) (λ at. IsTrue (is_among entries at)) _ _ _ _ c.in-Err.fault _ c.loop-path.invariant.requests.count c.in-Err.ensures.reads.requests.count refl refl
    (at_entry entries c.loop-path.path-index entry c.loop-path-test.true c.loop-path-item.is) c.in-Err.ensures.blame

pub returns-in-Err-clause-err : goal.returns-in-Err-clause-err
returns-in-Err-clause-err g c = λ faithful known exists.
    let before = c.find_file.ensures.reads.requests.back faithful in
    let files = (g.F.Folder.device.contents c.args.folder.now).files in
    let entries = c.args.entries.now in
    let so_far = c.loop-path.invariant in
    let i = c.loop-path.path-index in
    let e = c.loop-path-item.result in
    let within = c.loop-path-test.true in
    let is = c.loop-path-item.is in
    let rest = filter (λ f. is_large files f.1) (drop (i + 1) entries) in
    elim (c.in-Err.ensures.err faithful (subst (λ (now : Contents). IsSome (file_at now.files e.1)) (sym (so_far.same before))
    (all_at (λ (entry : List ℕ × Place). IsSome (file_at files entry.1)) entries i e within is exists))) [
      | inl machine ↦ inl (machine_before _ _ _ _ so_far.requests.count c.in-Err.ensures.reads.requests.count machine)
      | inr large ↦
          let here : is_large files e.1 ≡ true = sym (ap (λ (now : Contents). is_large now.files e.1) (so_far.same before)) ∙ large.0 in
          inr (sym (so_far.large before known)
          ∙ step_here (λ es. first_of (too_large files es)) entries i e within is
          ∙ ap (λ b. first_of (map (λ (f : List ℕ × List ℕ). faults.TooLarge f.1) (cond b (e ∷ rest) rest))) here
          ∙ ap Some (sym large.1))
    ]

pub loop-path-preserved : goal.loop-path-preserved
loop-path-preserved g c =
    let back = c.find_file.ensures.reads.requests.back in
    let contents = g.F.Folder.device.contents in
    let files = (contents c.args.folder.now).files in
    let entries = c.args.entries.now in
    let old = c.loop-path in
    let i = old.path-index in
    let e = c.loop-path-item.result in
    let x = file_in c.in-Ok.found in
    let read = old.observed.items ++ waiting_files old.waiting in
    let within = c.loop-path-test.true in
    let is = c.loop-path-item.is in
    let added = c.in_ok-waiting.ensures in
    let seen = c.args.seen.now in
    let is_observed : g.F.Folder.device.faithful c.find_file.new.folder → AreCachedIn files seen → IsObservedIn files x = λ faithful known. subst (λ (now : Contents). IsObservedIn now.files x) (old.invariant.same (back faithful))
    (c.in-Ok.ensures.observed faithful (subst (λ (now : Contents). AreCachedIn now.files seen) (sym (old.invariant.same (back faithful))) known)) in
    record {
      requests = requests_then old.invariant.requests c.find_file.ensures.reads.requests;
      back = λ faithful. old.invariant.back (back faithful);
      same = λ faithful. c.find_file.ensures.reads.same faithful ∙ old.invariant.same (back faithful);
      answered = λ first before known.
          let F = g.F.Folder in
          let now = c.find_file.new.folder in
          each_more (WasObserved F.device first now) read _ x added
          (all_observed_longer (requests_nothing first) c.find_file.ensures.reads.requests read (old.invariant.answered first before known))
          (c.in-Ok.ensures.answered first (requests_then before old.invariant.requests) (seen_longer (requests_nothing first) old.invariant.requests seen known));
      placed = placed_more entries i e read _ x within is added c.in-Ok.ensures.path c.in-Ok.ensures.place old.invariant.placed;
      digested = test_more (λ (file : ScannedFile). is_digest_of file.kept file.digest) read _ x added old.invariant.digested c.in-Ok.ensures.digested;
      each = λ faithful known. each_more (IsObservedIn files) read _ x added (old.invariant.each (back faithful) known) (is_observed faithful known);
      large = λ faithful known.
          let small : is_large files e.1 ≡ _ = ap (is_large files) (sym c.in-Ok.ensures.place) ∙ (is_observed faithful known).small in
          sym (step_here (λ es. first_of (too_large files es)) entries i e within is ∙ ap (λ b. first_of (map (λ (f : List ℕ × List ℕ). faults.TooLarge f.1) (cond b (e ∷ filter (λ f. is_large files f.1) (drop (i + 1) entries)) (filter (λ f. is_large files f.1) (drop (i + 1) entries))))) small)
          ∙ old.invariant.large (back faithful) known;
    }

pub returns-clause-reading : goal.returns-clause-reading
returns-clause-reading g c =
    let entries = c.args.entries.now in
    let end = c.loop-path-test.false in
    let read = c.loop-path.observed.items ++ waiting_files c.loop-path.waiting in
    subst (λ (files : List ScannedFile). IsReading files) (sym {A = List ScannedFile} c.in_ok-digest_waiting.ensures) (record {
      in_order = observed_sorted entries read (c.loop-path.invariant.placed ∙ take_all c.loop-path.path-index entries (omega (arith, end))) c.requires;
      digested = c.loop-path.invariant.digested;
    })
