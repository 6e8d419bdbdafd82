use Rattle.std.proofs.Common.{Err, ap, sym, ◌∙◌, inl, inr, refl}
use Rattle.gb_folder.specs.Faults.{reported_at}
use Rattle.gb_build.proofs.Editing.{remove_failed}
use Rattle.gb_build.proofs.edits.remove.Goals as goal

pub returns-in-Err-clause-step : goal.returns-in-Err-clause-step
returns-in-Err-clause-step g c = λ faithful.
    let fault = c.in-Err.fault in
    let w = c.remove.ensures in
    remove_failed (g.F.Folder.device.may_leave c.args.folder.now) c.args.place.now _ _ _ _ fault c.fault_of.result (sym c.is_own.ensures ∙ c.if-is_own.false) (c.fault_of.ensures ∙ ap (λ p. reported_at p fault) c.in_ok-at.ensures)
    (λ e. w.risen (c.in-Err.is ∙ ap Err e)) (λ other. c.in-Err.ensures.same faithful other) (λ e. w.blocked faithful (c.in-Err.is ∙ ap Err e))
    (λ e. w.missing faithful (c.in-Err.is ∙ ap Err e)) (λ e. w.missing_free faithful (c.in-Err.is ∙ ap Err e))
    (λ e. w.not_large (c.in-Err.is ∙ ap Err e)) (λ e. w.not_named (c.in-Err.is ∙ ap Err e)) (λ e. w.torn faithful (c.in-Err.is ∙ ap Err e))

pub returns-in_err-at-clause-requests : goal.returns-in_err-at-clause-requests
returns-in_err-at-clause-requests g c = inl refl

pub returns-then-is_own-clause-requests : goal.returns-then-is_own-clause-requests
returns-then-is_own-clause-requests g c = inl refl

pub returns-in-Ok-clause-requests : goal.returns-in-Ok-clause-requests
returns-in-Ok-clause-requests g c = inr (c.remove.result, c.remove.ensures.called)

pub returns-in-Err-clause-requests : goal.returns-in-Err-clause-requests
returns-in-Err-clause-requests g c = inr (c.remove.result, c.remove.ensures.called)
