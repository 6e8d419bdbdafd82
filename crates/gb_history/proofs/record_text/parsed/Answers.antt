use Rattle.std.proofs.Common.{◌≡◌, [], ◌∷◌, ap, subst, sym, ◌∙◌}
use Rattle.std.specs.List.{AllByRecursion}
use Rattle.gb_history.specs.Text.{record_json, FitsEdition}
use Rattle.gb_history.specs.declared.fault.RecordFault.TheVariants.{OutOfMemory}
use Rattle.gb_history.proofs.Lists.{err_passes}
use Rattle.gb_history.proofs.record_text.parsed.Goals as goal

pub returns-in_err-said-clause-read : goal.returns-in_err-said-clause-read
returns-in_err-said-clause-read c edition path run u h fits e =
    let reported : c.in_err-said.field-0.0 ≡ OutOfMemory = c.in_err-said.ensures edition ((path, run) ∷ []) ((u, h), tt) e in
    err_passes c.from_residual.result _ (λ x. x ≡ OutOfMemory) (rw reported at c.from_residual.ensures.1)

pub returns-in_err-found-clause-read : goal.returns-in_err-found-clause-read
returns-in_err-found-clause-read c edition path run u h fits e =
    let said = c.in_ok-said.ensures edition ((path, run) ∷ []) ((u, h), tt) e in
    let reported : c.in_err-found.field-0.0 ≡ OutOfMemory = c.in_err-found.ensures.read path run h
    (subst (λ x. AllByRecursion (FitsEdition x) run.actions) (sym said.0) fits) (said.1 ∙ ap (λ x. record_json x path run) (sym said.0)) in
    err_passes c.from_residual-in_err-found.result _ (λ x. x ≡ OutOfMemory) (rw reported at c.from_residual-in_err-found.ensures.1)

pub returns-clause-read : goal.returns-clause-read
returns-clause-read c edition path run u h fits e =
    let said = c.in_ok-said.ensures edition ((path, run) ∷ []) ((u, h), tt) e in (
      said.0,
      c.in_ok-found.ensures.read path run h
          (subst (λ x. AllByRecursion (FitsEdition x) run.actions) (sym said.0) fits) (said.1 ∙ ap (λ x. record_json x path run) (sym said.0)),
    )
