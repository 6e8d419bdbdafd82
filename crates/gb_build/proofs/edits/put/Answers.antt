use Rattle.std.proofs.Common.{◌<◌, ℕ, List, Some, length, subst, Err, ap, sym, ◌∙◌, inl, inr, refl}
use Rattle.gb_folder.specs.Limits.{max_file}
use Rattle.gb_folder.specs.Files.{IsTorn}
use Rattle.gb_folder.specs.Faults.{reported_at}
use Rattle.gb_build.proofs.Editing.{put_failed}
use Rattle.gb_folder.specs.Calls.{Writes}
use Rattle.gb_folder.specs.Device.{IsCalled}
use Rattle.gb_build.proofs.edits.put.Goals as goal

pub returns-in-Err-clause-step : goal.returns-in-Err-clause-step
returns-in-Err-clause-step g c = λ faithful.
    let fault = c.in-Err.fault in
    let place = c.args.place.now in
    let contents = g.F.Folder.device.contents in
    let may_leave = g.F.Folder.device.may_leave c.args.folder.now in
    let w = c.write.ensures in
    put_failed may_leave place c.args.bytes.now _ _ _ _ fault c.fault_of.result (sym c.is_own.ensures ∙ c.if-is_own.false) (c.fault_of.ensures ∙ ap (λ p. reported_at p fault) c.in_ok-at.ensures)
    (λ e. w.risen (c.in-Err.is ∙ ap Err e)) (λ other. c.in-Err.ensures.same faithful other) (λ e. w.blocked faithful (c.in-Err.is ∙ ap Err e))
    (λ e. subst (λ (bytes : List ℕ). max_file < length bytes) c.as_slice.ensures (w.large (c.in-Err.is ∙ ap Err e))) (λ e. w.not_missing (c.in-Err.is ∙ ap Err e)) (λ e. w.not_named (c.in-Err.is ∙ ap Err e))
    (λ e. subst (λ (bytes : List ℕ). IsTorn may_leave place (Some bytes) (contents c.args.folder.now) (contents c.write.new.folder)) c.as_slice.ensures (w.torn faithful (c.in-Err.is ∙ ap Err e)))

pub returns-in_err-at-clause-requests : goal.returns-in_err-at-clause-requests
returns-in_err-at-clause-requests g c = inl refl

pub returns-then-is_own-clause-requests : goal.returns-then-is_own-clause-requests
returns-then-is_own-clause-requests g c = inl refl

pub returns-in-Ok-clause-requests : goal.returns-in-Ok-clause-requests
returns-in-Ok-clause-requests g c =
    inr (
      c.write.result,
      subst (λ (bytes : List ℕ). IsCalled g.F.Folder.device c.args.folder.now (Writes c.args.place.now bytes max_file c.write.result) c.write.new.folder) c.as_slice.ensures c.write.ensures.called,
    )

pub returns-in-Err-clause-requests : goal.returns-in-Err-clause-requests
returns-in-Err-clause-requests g c =
    inr (
      c.write.result,
      subst (λ (bytes : List ℕ). IsCalled g.F.Folder.device c.args.folder.now (Writes c.args.place.now bytes max_file c.write.result) c.write.new.folder) c.as_slice.ensures c.write.ensures.called,
    )
