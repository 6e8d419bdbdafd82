use Rattle.std.proofs.Common.{◌≡◌, ap, subst, sym, ◌∙◌}
use Rattle.std.specs.List.{AllByRecursion}
use Rattle.gb_history.specs.Record.{IsHeld}
use Rattle.gb_history.specs.Text.{history_json, RecordFits}
use Rattle.gb_history.specs.declared.fault.RecordFault.TheVariants.{OutOfMemory}
use Rattle.gb_history.proofs.Lists.{all_both, err_passes}
use Rattle.gb_history.proofs.Records.{are_said}
use Rattle.gb_history.proofs.history.parsed.Goals as goal

pub returns-in_err-said-clause-read : goal.returns-in_err-said-clause-read
returns-in_err-said-clause-read c edition records held fits e =
    let reported : c.in_err-said.field-0.0 ≡ OutOfMemory = c.in_err-said.ensures edition records (are_said records held.each) e in
    err_passes c.from_residual.result _ (λ x. x ≡ OutOfMemory) (rw reported at c.from_residual.ensures.1)

pub returns-in_err-found-clause-read : goal.returns-in_err-found-clause-read
returns-in_err-found-clause-read c edition records held fits e =
    let said = c.in_ok-said.ensures edition records (are_said records held.each) e in
    let fit = subst (λ x. AllByRecursion (RecordFits x) records) (sym said.0) fits in
    let reported : c.in_err-found.field-0.0 ≡ OutOfMemory = c.in_err-found.ensures.read records (all_both IsHeld (RecordFits c.in_ok-said.said.0) records held.each fit)
    held.in_order (said.1 ∙ ap (λ x. history_json x records) (sym said.0)) in
    err_passes c.from_residual-in_err-found.result _ (λ x. x ≡ OutOfMemory) (rw reported at c.from_residual-in_err-found.ensures.1)

pub returns-clause-read : goal.returns-clause-read
returns-clause-read c edition records held fits e =
    let said = c.in_ok-said.ensures edition records (are_said records held.each) e in
    let fit = subst (λ x. AllByRecursion (RecordFits x) records) (sym said.0) fits in (
      said.0,
      c.in_ok-found.ensures.read records (all_both IsHeld (RecordFits c.in_ok-said.said.0) records held.each fit)
          held.in_order (said.1 ∙ ap (λ x. history_json x records) (sym said.0)),
    )
