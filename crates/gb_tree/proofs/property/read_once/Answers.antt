use Rattle.std.proofs.Common.{arith, IsTrue, ◌++◌, IfErr, ℕ, List, sym, subst, ap, ◌∙◌}
use Rattle.std.proofs.lemmas.Result.{err_from_is_err_and}
use Rattle.std.specs.List.{AllByRecursion}
use Rattle.gb_folder.proofs.Asked.{requests_nothing, requests_then}
use Rattle.gb_folder.specs.Files.{Contents, Place}
use Rattle.gb_tree.specs.Answered.{AreEntriesListed, WereObserved}
use Rattle.gb_tree.specs.Property.{entries_of, entry_faults, is_under_any, tree_faults}
use Rattle.gb_tree.specs.Reading.{IsObservedIn, digests_observed, entries_observed}
use Rattle.gb_tree.specs.DigestCache.{AreCachedIn}
use Rattle.gb_tree.specs.Tree.{Entries, IsRefused, is_among, too_large}
use Rattle.gb_tree.specs.declared.kept.ScannedFile.{ScannedFile}
use Rattle.gb_tree.proofs.Found.{found_exist}
use Rattle.gb_tree.proofs.Answering.{entries_longer}
use Rattle.gb_tree.proofs.Blame.{among_read, blamed_before}
use Rattle.gb_tree.proofs.Refused.{at_err}
use Rattle.gb_tree.proofs.Observed.{at_entries, observed_digests}
use Rattle.gb_tree.proofs.Remembering.{seen_longer}
use Rattle.gb_tree.proofs.Reported.{refused_listing, refused_reading}
use Rattle.gb_tree.proofs.property.read_once.Goals as goal

pub returns-in_err-observed-clause-err : goal.returns-in_err-observed-clause-err
returns-in_err-observed-clause-err g c = λ faithful known.
    let before = c.in_err-observed.ensures.reads.requests.back faithful in
    let p = err_from_is_err_and c.from_residual-in_err-observed.result c.from_residual-in_err-observed.ensures.1 in
    let failures = g.F.Folder.device.failures in
    let old = g.F.Folder.device.contents c.args.folder.now in
    let roots = c.args.roots.now in
    let include = c.args.include.now in
    let exclude = c.args.exclude.now in
    let entries = entries_of c.args.naming roots include exclude old.files in
    let listing = entry_faults c.args.name.now c.args.naming roots include exclude old in
    at_err (λ r. IfErr r (λ fault. IsRefused (failures c.args.folder.now) (failures c.scan_all.new.folder) (listing ++ too_large old.files entries) fault)) c.from_residual-in_err-observed.result p.0 c.in_err-observed.field-0.0 p.1 p.2
    (refused_reading (failures c.args.folder.now) _ _ old _ listing entries c.as_slice.result.now c.in_err-observed.field-0.0 (c.in_ok-entries.ensures.reads.same before) (c.as_slice.ensures.value ∙ c.in_ok-entries.ensures.entries before)
    c.in_ok-entries.ensures.reads.requests.count c.in_err-observed.ensures.reads.requests.count (c.in_ok-entries.ensures.fit before) (found_exist c.args.naming roots include exclude old.files) (c.in_err-observed.ensures.err faithful (subst (λ (now : Contents). AreCachedIn now.files c.args.seen.now) (sym (c.in_ok-entries.ensures.reads.same before)) known)))

pub returns-in_err-entries-clause-blame : goal.returns-in_err-entries-clause-blame
returns-in_err-entries-clause-blame g c =
    let p = err_from_is_err_and c.from_residual.result c.from_residual.ensures.1 in
    let IsSuch : Place → Type 0 = λ at. IsTrue (is_under_any c.args.roots.now at) in
    blamed_before IsSuch IsSuch _ _ _ _ c.in_err-entries.field-0.0 p.0 (omega arith) c.in_err-entries.ensures.reads.requests.count p.1 p.2 (λ at h. h) c.in_err-entries.ensures.blame

pub returns-in_err-entries-clause-err : goal.returns-in_err-entries-clause-err
returns-in_err-entries-clause-err g c = λ faithful known.
    let p = err_from_is_err_and c.from_residual.result c.from_residual.ensures.1 in
    let failures = g.F.Folder.device.failures in
    let old = g.F.Folder.device.contents c.args.folder.now in
    at_err (λ r. IfErr r (λ fault. IsRefused (failures c.args.folder.now) (failures c.entries_of.new.folder) (tree_faults c.args.name.now c.args.naming c.args.roots.now c.args.include.now c.args.exclude.now old) fault)) c.from_residual.result p.0 c.in_err-entries.field-0.0 p.1 p.2
    (refused_listing _ _ (entry_faults c.args.name.now c.args.naming c.args.roots.now c.args.include.now c.args.exclude.now old) _ _ (c.in_err-entries.ensures.err faithful))

pub returns-in_err-observed-clause-blame : goal.returns-in_err-observed-clause-blame
returns-in_err-observed-clause-blame g c =
    let p = err_from_is_err_and c.from_residual-in_err-observed.result c.from_residual-in_err-observed.ensures.1 in
    let read = c.as_slice.result.now in
    let IsSuch : Place → Type 0 = λ at. IsTrue (is_under_any c.args.roots.now at) in
    blamed_before (λ at. IsTrue (is_among read at)) IsSuch _ _ _ _ c.in_err-observed.field-0.0 p.0 c.in_ok-entries.ensures.reads.requests.count c.in_err-observed.ensures.reads.requests.count p.1 p.2
    (among_read IsSuch c.in_ok-entries.entries.items read c.as_slice.ensures.value c.in_ok-entries.ensures.under) c.in_err-observed.ensures.blame

pub returns-clause-under : goal.returns-clause-under
returns-clause-under g c =
    let IsSuch : Place → Type 0 = λ at. IsTrue (is_under_any c.args.roots.now at) in
    subst (λ (reading : List ℕ × List ScannedFile). AllByRecursion (λ observed. IsSuch observed.place) reading.1) (sym c.new.ensures)
    (at_entries IsSuch c.in_ok-entries.entries.items c.in_ok-observed.observed.items (c.in_ok-observed.ensures.placed ∙ c.as_slice.ensures.value) c.in_ok-entries.ensures.under)

pub returns-clause-listed : goal.returns-clause-listed
returns-clause-listed g c =
    let F = g.F.Folder in
    let naming = c.args.naming in
    let roots = c.args.roots.now in
    let include = c.args.include.now in
    let exclude = c.args.exclude.now in
    let entries = c.in_ok-entries.entries.items in
    subst (λ (reported : Entries). AreEntriesListed F.device naming roots include exclude c.args.folder.now c.scan_all.new.folder reported)
    (sym (ap (λ (reading : List ℕ × List ScannedFile). entries_observed reading.1) c.new.ensures ∙ c.in_ok-observed.ensures.placed ∙ c.as_slice.ensures.value))
    (entries_longer (requests_nothing c.args.folder.now) c.in_ok-observed.ensures.reads.requests naming roots include exclude entries c.in_ok-entries.ensures.listed)

pub returns-clause-answered : goal.returns-clause-answered
returns-clause-answered g c = λ first before known.
    let F = g.F.Folder in
    let asked = c.in_ok-entries.ensures.reads.requests in
    subst (λ (reading : List ℕ × List ScannedFile). WereObserved F.device first c.scan_all.new.folder reading.1) (sym c.new.ensures)
    (c.in_ok-observed.ensures.answered first (requests_then before asked) (seen_longer (requests_nothing first) asked c.args.seen.now known))

pub returns-clause-digests : goal.returns-clause-digests
returns-clause-digests g c = λ faithful known.
    let before = c.in_ok-observed.ensures.reads.requests.back faithful in
    let files = (g.F.Folder.device.contents c.args.folder.now).files in
    let observed = c.in_ok-observed.observed.items in
    let same = c.in_ok-entries.ensures.reads.same before in
    ap (λ (reading : List ℕ × List ScannedFile). digests_observed reading.1) c.new.ensures
    ∙ observed_digests files (entries_of c.args.naming c.args.roots.now c.args.include.now c.args.exclude.now files) observed (record {
      placed = c.in_ok-observed.ensures.placed ∙ c.as_slice.ensures.value ∙ c.in_ok-entries.ensures.entries before;
      each = subst (λ (now : Contents). AllByRecursion (IsObservedIn now.files) observed) same
          (c.in_ok-observed.ensures.observed faithful (subst (λ (now : Contents). AreCachedIn now.files c.args.seen.now) (sym same) known));
    })
