use Rattle.std.proofs.Common.{◌≡◌, true, true≢false, Ok, Err, None, OnOk, IfErr, ap, subst, sym, ◌∙◌}
use Rattle.gb_folder.specs.Each.{Ended}
use Rattle.gb_folder.specs.Files.{file_at, is_blocked, without}
use Rattle.gb_history.specs.Places.{record_place}
use Rattle.gb_records.specs.Called.{deletion_ending}
use Rattle.gb_records.specs.Faults.{removed_by}
use Rattle.gb_records.specs.declared.fault.Unwritten.{Unwritten}
use Rattle.gb_records.proofs.Called.{DeletionLed, deletion_called, deletion_hindered, deletion_none}
use Rattle.gb_folder.proofs.Machine.{at_err}
use Rattle.std.proofs.lemmas.Result.{err_from_is_err_and}
use Rattle.gb_records.specs.Holding.{ComesToNothing, HoldsWithout, taken_out}
use Rattle.gb_records.proofs.Holding.{not_there}
use Rattle.gb_records.proofs.Calls.{LeftAt, out_of, nothing_of, gone, exists_out}
use Rattle.gb_records.proofs.Asked.{taken_as}
use Rattle.gb_records.proofs.keeping.delete_record.Goals as goal

pub returns-then-not-was_read-clause-exists : goal.returns-then-not-was_read-clause-exists
returns-then-not-was_read-clause-exists g c = λ faithful observed memory existed none.
    not_there (g.F.Folder.device.contents c.args.folder.now).files memory c.args.path.now c.as_str-path.ensures.path existed (none c.if-not-was_read.true)

pub returns-in-Ok-clause-out : goal.returns-in-Ok-clause-out
returns-in-Ok-clause-out g c = λ faithful.
    let old = g.F.Folder.device.contents c.args.folder.now in
    c.in-Ok.ensures.removed faithful ∙ ap (λ p. record old { files = without old.files p }) c.in_ok-place.ensures.place
    ∙ ap (λ b. taken_out b c.args.path.now old) (sym c.if-not-was_read.false)

pub returns-in-Ok-clause-exists : goal.returns-in-Ok-clause-exists
returns-in-Ok-clause-exists g c = λ faithful observed memory existed none.
    let old = g.F.Folder.device.contents c.args.folder.now in
    gone c.args.path.now old (g.F.Folder.device.contents c.remove.new.folder) memory c.in_ok-place.ensures.path
    (c.in-Ok.ensures.removed faithful ∙ ap (λ p. record old { files = without old.files p }) c.in_ok-place.ensures.place) existed

pub returns : goal.returns
returns g c =
    let F = g.F.Folder in
    let old = F.device.contents c.args.folder.now in
    let new = F.device.contents c.remove.new.folder in
    let path = c.args.path.now in
    let fault = c.in-Err.fault in
    let at : c.in_ok-place.place ≡ record_place path = c.in_ok-place.ensures.place in
    let sound = g.met.F.Folder.sound c.args.folder.now in
    let allowed = c.remove.ensures in
    record {
      calls = deletion_called F.device path c.args.was_read c.in_ok-place.place c.args.folder.now c.remove.new.folder c.remove.result c.unless_missing.result c.if-not-was_read.false at c.remove.ensures.called
          (c.unless_missing.ensures ∙ ap deletion_ending (sym c.in-Err.is));
      requests = taken_as c.in_ok-place.place (record_place path) at allowed.requests;
      unread = λ e. absurd (true≢false (sym c.if-not-was_read.false ∙ e));
      out = λ faithful.
          subst (λ r. OnOk r (new ≡ taken_out c.args.was_read path old)) (sym c.unless_missing.ensures)
          (subst (λ b. OnOk (removed_by fault) (new ≡ taken_out b path old)) (sym c.if-not-was_read.false)
          (out_of path old new fault sound (c.in-Err.ensures.same faithful)
          (λ e. subst (λ p. file_at old.files p ≡ None) at (allowed.missing faithful (c.in-Err.is ∙ ap Err e)))));
      err = λ faithful.
          subst (λ r. IfErr r (λ reported. ComesToNothing (F.device.may_leave c.args.folder.now) path None (F.device.failures c.args.folder.now) (F.device.failures c.remove.new.folder) old reported new)) (sym c.unless_missing.ensures)
          (nothing_of (F.device.may_leave c.args.folder.now) path _ _ old new fault (c.in-Err.ensures.same faithful) (λ e. allowed.risen (c.in-Err.is ∙ ap Err e))
          (λ e. subst (λ p. LeftAt (F.device.may_leave c.args.folder.now) p None old new) at (allowed.torn faithful (c.in-Err.is ∙ ap Err e)))
          (λ e. subst (λ p. is_blocked old.files p ≡ true) at (allowed.blocked faithful (c.in-Err.is ∙ ap Err e)))
          (λ e. allowed.not_large (c.in-Err.is ∙ ap Err e)) (λ e. allowed.not_named (c.in-Err.is ∙ ap Err e)));
      exists = λ faithful observed memory existed none.
          subst (λ r. HoldsWithout path memory r new.files) (sym c.unless_missing.ensures)
          (exists_out (F.device.may_leave c.args.folder.now) path old new fault memory c.in_ok-place.ensures.path sound (c.in-Err.ensures.same faithful)
          (λ e. subst (λ p. file_at old.files p ≡ None) at (allowed.missing faithful (c.in-Err.is ∙ ap Err e)))
          (λ e. subst (λ p. LeftAt (F.device.may_leave c.args.folder.now) p None old new) at (allowed.torn faithful (c.in-Err.is ∙ ap Err e))) observed existed);
    }

pub returns-in-Ok-clause-requests : goal.returns-in-Ok-clause-requests
returns-in-Ok-clause-requests g c = taken_as c.in_ok-place.place (record_place c.args.path.now) c.in_ok-place.ensures.place c.remove.ensures.requests

pub returns-in-Ok-clause-calls : goal.returns-in-Ok-clause-calls
returns-in-Ok-clause-calls g c =
    let F = g.F.Folder in
    deletion_called F.device c.args.path.now c.args.was_read c.in_ok-place.place c.args.folder.now c.remove.new.folder c.remove.result (Ok tt) c.if-not-was_read.false c.in_ok-place.ensures.place c.remove.ensures.called
    (ap deletion_ending (sym c.in-Ok.is))

pub returns-then-not-was_read-clause-calls : goal.returns-then-not-was_read-clause-calls
returns-then-not-was_read-clause-calls g c = deletion_none g.F.Folder.device c.args.path.now c.args.was_read c.args.folder.now c.if-not-was_read.true

pub returns-in_err-place-clause-calls : goal.returns-in_err-place-clause-calls
returns-in_err-place-clause-calls g c =
    let F = g.F.Folder in
    let p = err_from_is_err_and c.from_residual.result c.from_residual.ensures.1 in
    at_err (λ (r : Ended Unwritten). DeletionLed F.device c.args.path.now c.args.was_read c.args.folder.now r c.args.folder.now) c.from_residual.result p.0 c.in_err-place.field-0.0 p.1 p.2
    (deletion_hindered F.device c.args.path.now c.args.was_read c.args.folder.now c.in_err-place.field-0.0 c.if-not-was_read.false (λ e. c.in_err-place.ensures.shut (ap Err e)))
