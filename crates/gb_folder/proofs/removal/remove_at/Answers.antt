use Rattle.std.proofs.Common.{◌≡◌, ◌≢◌, ◌∷◌, [], None, refl, sym, ap, subst, inl, inr, Err, ◌∙◌}
use Rattle.std.specs.Cmp.Lexicographic.{bytes_decides}
use Rattle.std.proofs.lemmas.Result.{on_ok_weaker, IfErr-weaker, IfErr-at_err}
use Rattle.gb_folder.specs.declared.folder.FolderFault.{FolderFault}
use Rattle.gb_folder.specs.declared.folder.FolderFault.TheVariants as folders
use Rattle.gb_folder.specs.Files.{Contents, IsFolder, Place, file_at}
use Rattle.gb_folder.specs.Changes.{IsHindered, without_all}
use Rattle.gb_folder.specs.Faults.{reported_at}
use Rattle.gb_folder.specs.Removals.{removal_ending, unless_absent}
use Rattle.gb_folder.proofs.Called.{at_ok, at_place}
use Rattle.gb_folder.proofs.Removing.{hindered_by, reported_place}
use Rattle.gb_folder.proofs.Emptied.{without_none, blocked_none}
use Rattle.gb_folder.proofs.Machine.{blames_device, of_machine}
use Rattle.gb_folder.proofs.removal.remove_at.Goals as goal

pub returns-in-Ok-clause-call : goal.returns-in-Ok-clause-call
returns-in-Ok-clause-call g c =
    let F = g.F.Folder in
    let place = c.args.place.now in
    inr (c.remove.result, c.remove.ensures.called, ap (removal_ending place) (sym c.in-Ok.is))

-- where there is no file, the folder is the same without one
none_left : (old new : Contents) (place : Place) → IsFolder old.files → new ≡ old → file_at old.files place ≡ None → new ≡ without_all old (place ∷ [])
none_left old new place sound same none = same ∙ ap (λ files. record old { files = files }) (sym (without_none old.files place sound none))

-- a fault that is neither of these is a device fault or an out-of-memory fault
other_fault : (fault : FolderFault) → fault ≢ folders.Missing → fault ≢ folders.Blocked → fault ≢ folders.TooLarge → fault ≢ folders.BadFileName → fault ≢ folders.OutOfMemory → fault ≢ folders.Device → ⊥
other_fault folders.OutOfMemory a b d e f h = f refl
other_fault folders.Device a b d e f h = h refl
other_fault folders.Missing a b d e f h = a refl
other_fault folders.Blocked a b d e f h = b refl
other_fault folders.TooLarge a b d e f h = d refl
other_fault folders.BadFileName a b d e f h = e refl

pub returns-in-Err : goal.returns-in-Err
returns-in-Err g c =
    let F = g.F.Folder in
    let old = F.device.contents c.args.folder.now in
    let new = F.device.contents c.remove.new.folder in
    let place = c.args.place.now in
    let fault = c.in-Err.fault in
    let sound = g.met.F.Folder.sound c.args.folder.now in
    let allowed = c.remove.ensures in
    let as_reported : reported_at c.in_ok-at.at fault ≡ reported_at place fault = ap (λ p. reported_at p fault) c.in_ok-at.ensures in
    record {
      call = inr (
        c.remove.result,
        c.remove.ensures.called,
        c.unless_absent.ensures ∙ ap (λ p. unless_absent p fault) c.in_ok-at.ensures ∙ ap (removal_ending place) (sym c.in-Err.is),
      );
      requests = allowed.requests;
      blame = λ at is.
          let reported = IfErr-at_err _ is (at_place c.in_ok-at.at fault c.unless_absent.result c.unless_absent.ensures) in
          allowed.risen (c.in-Err.is ∙ ap Err (blames_device place fault _ (inr (reported.2 ∙ as_reported)) at refl));
      blamed = λ at is.
          let reported = IfErr-at_err _ is (at_place c.in_ok-at.at fault c.unless_absent.result c.unless_absent.ensures) in
          (bytes_decides at place).1 (sym (reported_place place at fault (sym (reported.2 ∙ as_reported))));
      ok = λ faithful. on_ok_weaker c.unless_absent.result (λ absent.
          elim absent [
            | inl missing ↦ none_left old new place sound (c.in-Err.ensures.same faithful (λ e. cc)) (allowed.missing faithful (c.in-Err.is ∙ ap Err missing))
            | inr blocked ↦ none_left old new place sound (c.in-Err.ensures.same faithful (λ e. cc)) (blocked_none old.files place sound (allowed.blocked faithful (c.in-Err.is ∙ ap Err blocked)))
          ]) (at_ok c.in_ok-at.at fault c.unless_absent.result c.unless_absent.ensures);
      err = λ faithful. IfErr-weaker c.unless_absent.result _ _ (λ reported h.
          of_machine _ _ place fault reported (inr (h.2 ∙ as_reported)) (λ d. allowed.risen (c.in-Err.is ∙ ap Err d))
          (λ a b. other_fault fault h.0 h.1 (λ e. allowed.not_large (c.in-Err.is ∙ ap Err e)) (λ e. allowed.not_named (c.in-Err.is ∙ ap Err e)) a b)) (at_place c.in_ok-at.at fault c.unless_absent.result c.unless_absent.ensures);
      hindered = λ faithful. IfErr-weaker c.unless_absent.result _ _ (λ reported h.
          subst (λ t. IsHindered (F.device.may_leave c.args.folder.now) place None old t new) (sym (h.2 ∙ as_reported))
          (hindered_by (F.device.may_leave c.args.folder.now) place None old new fault h.0 h.1 (λ e. allowed.not_large (c.in-Err.is ∙ ap Err e)) (λ e. allowed.not_named (c.in-Err.is ∙ ap Err e))
          (c.in-Err.ensures.same faithful) (λ d. allowed.torn faithful (c.in-Err.is ∙ ap Err d)))) (at_place c.in_ok-at.at fault c.unless_absent.result c.unless_absent.ensures);
    }
