use Rattle.std.proofs.Common.{arith, IsTrue, ◌++◌, IfErr, ◌∙◌}
use Rattle.std.proofs.lemmas.Result.{err_from_is_err_and}
use Rattle.gb_core.specs.Place.{is_under}
use Rattle.gb_folder.specs.Files.{Place}
use Rattle.gb_tree.specs.Tree.{IsRefused, is_among, output_entries, output_faults, output_listing_faults, too_large}
use Rattle.gb_tree.proofs.Blame.{among_read, blamed_before}
use Rattle.gb_tree.proofs.Refused.{at_err}
use Rattle.gb_tree.proofs.Reported.{outputs_exist, refused_listing, refused_reading}
use Rattle.gb_tree.proofs.output.outputs.Goals as goal

pub returns-in_err-files-clause-err : goal.returns-in_err-files-clause-err
returns-in_err-files-clause-err g c = λ faithful.
    let before = c.in_err-files.ensures.reads.requests.back faithful in
    let p = err_from_is_err_and c.from_residual-in_err-files.result c.from_residual-in_err-files.ensures.1 in
    let failures = g.F.Folder.device.failures in
    let old = g.F.Folder.device.contents c.args.folder.now in
    let name = c.args.name.now in
    let root = c.args.place.now in
    let entries = output_entries old.files root in
    let listing = output_listing_faults name root old in
    at_err (λ r. IfErr r (λ fault. IsRefused (failures c.args.folder.now) (failures c.read_all.new.folder) (listing ++ too_large old.files entries) fault)) c.from_residual-in_err-files.result p.0 c.in_err-files.field-0.0 p.1 p.2
    (refused_reading (failures c.args.folder.now) _ _ old _ listing entries c.as_slice.result.now c.in_err-files.field-0.0 (c.in_ok-entries.ensures.reads.same before) (c.as_slice.ensures.value ∙ c.in_ok-entries.ensures.entries before)
    c.in_ok-entries.ensures.reads.requests.count c.in_err-files.ensures.reads.requests.count (c.in_ok-entries.ensures.fit before) (outputs_exist old.files root) (c.in_err-files.ensures.err faithful))

pub returns-in_err-entries-clause-blame : goal.returns-in_err-entries-clause-blame
returns-in_err-entries-clause-blame g c =
    let p = err_from_is_err_and c.from_residual.result c.from_residual.ensures.1 in
    let IsSuch : Place → Type 0 = λ at. IsTrue (is_under at c.args.place.now) in
    blamed_before IsSuch IsSuch _ _ _ _ c.in_err-entries.field-0.0 p.0 (omega arith) c.in_err-entries.ensures.reads.requests.count p.1 p.2 (λ at h. h) c.in_err-entries.ensures.blame

pub returns-in_err-entries-clause-err : goal.returns-in_err-entries-clause-err
returns-in_err-entries-clause-err g c = λ faithful.
    let p = err_from_is_err_and c.from_residual.result c.from_residual.ensures.1 in
    let failures = g.F.Folder.device.failures in
    let old = g.F.Folder.device.contents c.args.folder.now in
    at_err (λ r. IfErr r (λ fault. IsRefused (failures c.args.folder.now) (failures c.entries_at.new.folder) (output_faults c.args.name.now c.args.place.now old) fault)) c.from_residual.result p.0 c.in_err-entries.field-0.0 p.1 p.2
    (refused_listing _ _ (output_listing_faults c.args.name.now c.args.place.now old) _ _ (c.in_err-entries.ensures.err faithful))

pub returns-in_err-files-clause-blame : goal.returns-in_err-files-clause-blame
returns-in_err-files-clause-blame g c =
    let p = err_from_is_err_and c.from_residual-in_err-files.result c.from_residual-in_err-files.ensures.1 in
    let read = c.as_slice.result.now in
    let IsSuch : Place → Type 0 = λ at. IsTrue (is_under at c.args.place.now) in
    blamed_before (λ at. IsTrue (is_among read at)) IsSuch _ _ _ _ c.in_err-files.field-0.0 p.0 c.in_ok-entries.ensures.reads.requests.count c.in_err-files.ensures.reads.requests.count p.1 p.2
    (among_read IsSuch c.in_ok-entries.entries.items read c.as_slice.ensures.value c.in_ok-entries.ensures.under) c.in_err-files.ensures.blame
