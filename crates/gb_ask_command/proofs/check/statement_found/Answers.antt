use Rattle.std.proofs.Common.{◌⊎◌, Option, inl, inr, subst}
use Rattle.std.specs.Prelude.{MatchOption}
use Rattle.gb_build.proofs.SaidLemmas.{handed}
use Rattle.gb_check.specs.Sites.{HasTextFault, script_of_project}
use Rattle.gb_folder.specs.Files.{Contents}
use Rattle.gb_registry.specs.Tables.{tables_of}
use Rattle.gb_registry.specs.declared.first_fault.FaultAt.{FaultAt}
use Rattle.gb_report.specs.declared.fault.Fault.{Fault}
use Rattle.gb_folder.proofs.Machine.{machine_before}
use Rattle.gb_folder.specs.Faults.{IsOfMachine}
use Rattle.gb_ask_command.specs.Faulty.{IsFaultless, IsFaulty, IsTextFault}
use Rattle.gb_ask_command.proofs.Again.{faulty_again}
use Rattle.gb_ask_command.proofs.check.statement_found.Goals as goal

pub returns-in_err-found_at-in-Some-clause-err : goal.returns-in_err-found_at-in-Some-clause-err
returns-in_err-found_at-in-Some-clause-err g c = λ faithful.
    let F = g.F.Folder in
    let before = c.found_at.ensures.reads.requests.back faithful in
    let files = (F.device.contents c.args.folder.now).files in
    let tables = tables_of g.T.Transforms.meanings g.A.Actions.meanings c.args.tables.now in
    let at : FaultAt = c.in-Some.at in
    let fault : Fault = c.in_err-found_at-in-Some.field-0.0 in
    let Bad : Fault → Type 0 = λ fault. IsOfMachine (F.device.failures c.args.folder.now) (F.device.failures c.found_at.new.folder) fault ⊎ IsTextFault files fault in
    let faulty : IsFaulty tables files at = subst (λ (found : Option FaultAt). MatchOption found (IsFaultless tables files) (IsFaulty tables files)) c.in-Some.is (c.in_ok-at.ensures.found before) in
    handed _ Bad c.from_residual-in_err-found_at-in-Some.result fault c.from_residual-in_err-found_at-in-Some.ensures.1
    (elim (c.in_err-found_at-in-Some.ensures.err faithful) as (λ _. Bad fault) [
      | inl machine ↦ inl (machine_before _ _ _ fault c.read_fault.ensures.reads.requests.count c.found_at.ensures.reads.requests.count machine)
      | inr text ↦ absurd (faulty_again tables files at fault faulty
          (subst (λ (contents : Contents). HasTextFault contents.files (script_of_project at.project) fault) (c.read_fault.ensures.reads.same before) text))
    ])
