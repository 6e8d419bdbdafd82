use Rattle.std.proofs.Common.{◌≡◌, ◌⊎◌, [], ◌++◌, Some, IfErr, ap, ◌∙◌, inl, inr}
use Rattle.std.proofs.lemmas.Result.{err_from_is_err_and}
use Rattle.gb_core.specs.Lists.{first_of}
use Rattle.gb_folder.specs.Files.{Files, are_placed}
use Rattle.gb_report.specs.declared.fault.Fault.{Fault}
use Rattle.gb_report.specs.declared.fault.Fault.TheVariants as faults
use Rattle.gb_folder.proofs.Machine.{at_err}
use Rattle.gb_semantics.specs.Made.{placed, put_over}
use Rattle.gb_run.specs.Placing.{blank, count_faults, faults_beside}
use Rattle.gb_run.specs.Texts.{files_in}
use Rattle.gb_run.proofs.Placed.{beside_is, first_more, placed_over}
use Rattle.gb_run.proofs.placing.take_places.Goals as goal

pub returns-in_err-steps-clause-err : goal.returns-in_err-steps-clause-err
returns-in_err-steps-clause-err c =
    let outputs = c.args.outputs.now in
    let files = put_over [] (placed outputs c.args.writes) in
    let p = err_from_is_err_and c.from_residual-in_err-steps.result c.from_residual-in_err-steps.ensures.1 in
    let IsFault : Fault → Type 0 = λ fault. (fault ≡ faults.OutOfMemory) ⊎ (first_of (faults_beside outputs c.args.taken.now files) ≡ Some fault) in
    at_err (λ r. IfErr r IsFault) c.from_residual-in_err-steps.result p.0 c.in_err-steps.field-0.0 p.1 p.2 (elim c.in_err-steps.ensures.err [
      | inl memory ↦ inl memory
      | inr first ↦ inr (
          ap first_of (beside_is outputs c.args.taken.now c.hold_all.new.taken files (files_in c.in_ok-files.files) c.in_ok-files.ensures c.in_ok-hold_all.ensures)
          ∙ first_more _ _ _ first)
    ])

pub check_counts-requires : goal.check_counts-requires
check_counts-requires c = ap are_placed c.in_ok-hold_all.ensures ∙ placed_over c.hold_all.new.taken (files_in c.in_ok-files.files) c.args.taken.now c.in_ok-steps.ensures.ok c.requires.placed

pub returns-in_err-check_counts-clause-err : goal.returns-in_err-check_counts-clause-err
returns-in_err-check_counts-clause-err c =
    let outputs = c.args.outputs.now in
    let files = put_over [] (placed outputs c.args.writes) in
    let all = c.hold_all.new.taken in
    let p = err_from_is_err_and c.from_residual-in_err-check_counts.result c.from_residual-in_err-check_counts.ensures.1 in
    let IsFault : Fault → Type 0 = λ fault. (fault ≡ faults.OutOfMemory) ⊎ (first_of (faults_beside outputs c.args.taken.now files) ≡ Some fault) in
    at_err (λ r. IfErr r IsFault) c.from_residual-in_err-check_counts.result p.0 c.in_err-check_counts.field-0.0 p.1 p.2 (elim c.in_err-check_counts.ensures.err [
      | inl memory ↦ inl memory
      | inr first ↦ inr (
          ap first_of (beside_is outputs c.args.taken.now all files (files_in c.in_ok-files.files) c.in_ok-files.ensures c.in_ok-hold_all.ensures
          ∙ ap (λ fs. fs ++ count_faults outputs all) c.in_ok-steps.ensures.ok)
          ∙ first)
    ])

pub returns-clause-ok : goal.returns-clause-ok
returns-clause-ok c =
    let outputs = c.args.outputs.now in
    let files = put_over [] (placed outputs c.args.writes) in
    let all = c.hold_all.new.taken in
    beside_is outputs c.args.taken.now all files (files_in c.in_ok-files.files) c.in_ok-files.ensures c.in_ok-hold_all.ensures
    ∙ ap (λ fs. fs ++ count_faults outputs all) c.in_ok-steps.ensures.ok ∙ c.in_ok-check_counts.ensures.ok

pub returns-clause-taken : goal.returns-clause-taken
returns-clause-taken c = c.in_ok-hold_all.ensures ∙ ap (λ (files : Files). put_over c.args.taken.now (blank files)) c.in_ok-files.ensures

pub returns-clause-placed : goal.returns-clause-placed
returns-clause-placed c = ap are_placed c.in_ok-hold_all.ensures ∙ placed_over c.hold_all.new.taken (files_in c.in_ok-files.files) c.args.taken.now c.in_ok-steps.ensures.ok c.requires.placed
