use Rattle.std.proofs.Common.{◌≡◌, IsTrue, sym, ap, subst, ◌∙◌}
use Rattle.std.specs.FinMap.Entries.{find, is_sorted}
use Rattle.gb_core.specs.Lists.{byte_order}
use Rattle.gb_action.proofs.Ordered.{find-at, searchable, missing}
use Rattle.gb_action.proofs.files.Files.get.Goals as goal

pub returns-in-Ok : goal.returns-in-Ok
returns-in-Ok c =
    let es = c.as_slice-entries.result.now in
    let is : es ≡ c.args.self.now = c.as_slice-entries.ensures.value ∙ c.self.view_is in
    let ordered : IsTrue (is_sorted byte_order es) = subst (λ x. IsTrue (is_sorted byte_order x)) (sym c.as_slice-entries.ensures.value) c.self.invariant in
    let d = c.index-entries-index.result in
    sym (ap (find byte_order c.args.path.now) (sym is) ∙ find-at es c.args.path.now c.in-Ok.index d ordered c.in-Ok.ensures.within (c.in-Ok.ensures.position d))

pub returns-in-Err : goal.returns-in-Err
returns-in-Err c =
    let es = c.as_slice-entries.result.now in
    let is : es ≡ c.args.self.now = c.as_slice-entries.ensures.value ∙ c.self.view_is in
    let ordered : IsTrue (is_sorted byte_order es) = subst (λ x. IsTrue (is_sorted byte_order x)) (sym c.as_slice-entries.ensures.value) c.self.invariant in
    sym (ap (find byte_order c.args.path.now) (sym is) ∙ missing es c.args.path.now c.in-Err.field-0 (c.in-Err.ensures.position (searchable es c.args.path.now ordered)))
