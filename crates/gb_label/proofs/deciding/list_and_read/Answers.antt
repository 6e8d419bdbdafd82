use Rattle.std.proofs.Common.{◌≡◌, false, [], IfErr, ap, subst, ◌∙◌, inl, inr}
use Rattle.std.specs.List.{flat_map}
use Rattle.std.proofs.lemmas.Result.{err_from_is_err_and, on_ok_weaker}
use Rattle.gb_folder.specs.Files.{Contents, is_empty}
use Rattle.gb_semantics.specs.Tree.{listing_faults}
use Rattle.gb_folder.proofs.Machine.{at_err}
use Rattle.gb_label.specs.Reading.{print_faults}
use Rattle.gb_folder.proofs.Asked.{requests_nothing, requests_then}
use Rattle.gb_tree.proofs.Remembering.{known_still, seen_longer}
use Rattle.gb_label.proofs.Cases.{cannot_before}
use Rattle.gb_label.proofs.Growth.{CannotPrint, cannot_print_listed, err_as}
use Rattle.gb_label.proofs.deciding.list_and_read.Goals as goal

pub returns-in_err-check_outputs-clause-err : goal.returns-in_err-check_outputs-clause-err
returns-in_err-check_outputs-clause-err g c = λ faithful known.
    let p = err_from_is_err_and c.from_residual.result c.from_residual.ensures.1 in
    at_err (λ r. IfErr r (CannotPrint c.args.task.now (g.F.Folder.device.contents c.args.folder.now) (g.F.Folder.device.failures c.args.folder.now) (g.F.Folder.device.failures c.check_outputs.new.folder)))
    c.from_residual.result p.0 c.in_err-check_outputs.field-0.0 p.1 p.2 (inr (c.in_err-check_outputs.ensures.err faithful))

pub returns-clause-none_special : goal.returns-clause-none_special
returns-clause-none_special g c = λ faithful known. on_ok_weaker c.read_outputs.result (λ _. c.in_ok-check_outputs.ensures.none_special (c.read_outputs.ensures.reads.requests.back faithful)) (c.read_outputs.ensures.fit faithful (known_still _ _ c.args.seen.now (c.check_outputs.ensures.reads.same (c.read_outputs.ensures.reads.requests.back faithful)) known))

pub returns-clause-err : goal.returns-clause-err
returns-clause-err g c = λ faithful known.
    let F = g.F.Folder in
    let task = c.args.task.now in
    let old : Contents = F.device.contents c.args.folder.now in
    let now : Contents = F.device.contents c.check_outputs.new.folder in
    let before = c.read_outputs.ensures.reads.requests.back faithful in
    let same : now ≡ old = c.check_outputs.ensures.reads.same before in
    let none : listing_faults task now ≡ [] = ap (listing_faults task) same ∙ c.in_ok-check_outputs.ensures.none_special before in
    err_as c.read_outputs.result (c.read_outputs.ensures.err faithful (known_still _ _ c.args.seen.now same known)) (λ fault cannot. elim (cannot_print_listed task now _ _ fault none cannot) [
      | inl grown ↦ inl (grown.0, subst (λ (folder : Contents). is_empty (flat_map (print_faults folder) task.outputs) ≡ false) same grown.1)
      | inr read ↦ inr (cannot_before task old now _ _ _ fault same c.check_outputs.ensures.reads.requests.count c.read_outputs.ensures.reads.requests.count read)
    ])

pub returns-clause-answered : goal.returns-clause-answered
returns-clause-answered g c = λ first before known.
    let asked = c.check_outputs.ensures.reads.requests in
    c.read_outputs.ensures.answered first (requests_then before asked) (seen_longer (requests_nothing first) asked c.args.seen.now known)
