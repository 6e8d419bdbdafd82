use Rattle.std.proofs.Common.{◌≡◌, ◌⊎◌, [], ◌++◌, Some, IfErr, refl, ap, ◌∙◌, inl, inr}
use Rattle.std.proofs.lemmas.Result.{err_from_is_err_and}
use Rattle.gb_core.specs.Lists.{first_of}
use Rattle.gb_folder.specs.Files.{are_placed}
use Rattle.gb_report.specs.declared.fault.Fault.{Fault}
use Rattle.gb_report.specs.declared.fault.Fault.TheVariants as faults
use Rattle.gb_folder.proofs.Machine.{at_err}
use Rattle.gb_run.proofs.Fits.{fitting}
use Rattle.gb_run.specs.Placing.{count_faults, faults_beside}
use Rattle.gb_run.proofs.Placed.{beside_is, first_more, placed_over}
use Rattle.gb_run.specs.Named.{files_left}
use Rattle.gb_run.specs.ChangeTexts.{steps_in}
use Rattle.gb_run.proofs.after_reply.check_held.Goals as goal

pub returns-then-all_fit-clause-ok : goal.returns-then-all_fit-clause-ok
returns-then-all_fit-clause-ok c =
    fitting c.args.steps.now c.args.outputs.now (c.all_fit.ensures.few c.if-all_fit.true) (c.all_fit.ensures.fit c.if-all_fit.true)

pub check_counts-requires : goal.check_counts-requires
check_counts-requires c = ap are_placed c.in_ok-held.ensures ∙ placed_over c.in_ok-held.held (files_left (steps_in c.args.steps.now)) [] c.in_ok-check_all.ensures.ok refl

pub returns-in_err-check_all-clause-err : goal.returns-in_err-check_all-clause-err
returns-in_err-check_all-clause-err c =
    let outputs = c.args.outputs.now in
    let files = files_left (steps_in c.args.steps.now) in
    let p = err_from_is_err_and c.from_residual-in_err-check_all.result c.from_residual-in_err-check_all.ensures.1 in
    let IsFault : Fault → Type 0 = λ fault. (fault ≡ faults.OutOfMemory) ⊎ (first_of (faults_beside outputs [] files) ≡ Some fault) in
    at_err (λ r. IfErr r IsFault) c.from_residual-in_err-check_all.result p.0 c.in_err-check_all.field-0.0 p.1 p.2 (elim c.in_err-check_all.ensures.err [
      | inl memory ↦ inl memory
      | inr first ↦ inr (ap first_of (beside_is outputs [] c.in_ok-held.held files files refl c.in_ok-held.ensures) ∙ first_more _ _ _ first)
    ])

pub returns-in_err-check_counts-clause-err : goal.returns-in_err-check_counts-clause-err
returns-in_err-check_counts-clause-err c =
    let outputs = c.args.outputs.now in
    let files = files_left (steps_in c.args.steps.now) in
    let held = c.in_ok-held.held in
    let p = err_from_is_err_and c.from_residual-in_err-check_counts.result c.from_residual-in_err-check_counts.ensures.1 in
    let IsFault : Fault → Type 0 = λ fault. (fault ≡ faults.OutOfMemory) ⊎ (first_of (faults_beside outputs [] files) ≡ Some fault) in
    at_err (λ r. IfErr r IsFault) c.from_residual-in_err-check_counts.result p.0 c.in_err-check_counts.field-0.0 p.1 p.2 (elim c.in_err-check_counts.ensures.err [
      | inl memory ↦ inl memory
      | inr first ↦ inr (
          ap first_of (beside_is outputs [] held files files refl c.in_ok-held.ensures ∙ ap (λ fs. fs ++ count_faults outputs held) c.in_ok-check_all.ensures.ok)
          ∙ first)
    ])

pub returns-clause-ok : goal.returns-clause-ok
returns-clause-ok c =
    let outputs = c.args.outputs.now in
    let files = files_left (steps_in c.args.steps.now) in
    let held = c.in_ok-held.held in
    beside_is outputs [] held files files refl c.in_ok-held.ensures
    ∙ ap (λ fs. fs ++ count_faults outputs held) c.in_ok-check_all.ensures.ok ∙ c.in_ok-check_counts.ensures.ok
