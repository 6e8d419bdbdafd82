use Rattle.std.proofs.Common.{Ok, Err, ap, refl, ◌∙◌, inl, inr}
use Rattle.std.specs.List.{list_all}
use Rattle.gb_core.specs.Place.{is_place}
use Rattle.gb_registry.specs.Projects.{projects_of}
use Rattle.gb_registry.specs.Tables.{tables_of}
use Rattle.gb_folder.proofs.Machine.{machine_before}
use Rattle.gb_ask_command.proofs.FaultyLemmas.{Refused, faulty, memory_alone}
use Rattle.gb_build.proofs.PlaceLemmas.{places_good}
use Rattle.gb_build.proofs.SaidLemmas.{handed, scripts_here}
use Rattle.gb_build.specs.Scripts.{script_places}
use Rattle.gb_ask_command.proofs.first_fault.read_fault.Goals as goal

pub read_scripts-requires : goal.read_scripts-requires
read_scripts-requires g c = record {
  places =
      ap (λ projects. list_all is_place (script_places projects)) (c.as_slice.ensures.value ∙ c.in_ok-projects.ensures.projects)
      ∙ places_good c.in_ok-settings.settings c.in_ok-projects.ensures.faults;
}

pub returns-in_err-settings-clause-err : goal.returns-in_err-settings-clause-err
returns-in_err-settings-clause-err g c = λ faithful.
    let F = g.F.Folder in
    let files = (F.device.contents c.args.folder.now).files in
    let tables = tables_of g.T.Transforms.meanings g.A.Actions.meanings c.args.tables.now in
    let Bad = Refused tables files (F.device.failures c.args.folder.now) (F.device.failures c.read_settings_of.new.folder) in
    let fault = c.in_err-settings.field-0.0 in
    handed _ Bad c.from_residual.result fault c.from_residual.ensures.1
    (elim (c.in_err-settings.ensures.said faithful) [
      | inl machine ↦ inl machine
      | inr bad ↦ inr (inl (inl bad))
    ])

pub returns-in_err-projects-clause-err : goal.returns-in_err-projects-clause-err
returns-in_err-projects-clause-err g c = λ faithful.
    let F = g.F.Folder in
    let files = (F.device.contents c.args.folder.now).files in
    let tables = tables_of g.T.Transforms.meanings g.A.Actions.meanings c.args.tables.now in
    let Bad = Refused tables files (F.device.failures c.args.folder.now) (F.device.failures c.read_settings_of.new.folder) in
    let fault = c.in_err-projects.field-0.0 in
    handed _ Bad c.from_residual-in_err-projects.result fault c.from_residual-in_err-projects.ensures.1
    (elim c.in_err-projects.ensures.faults [
      | inl memory ↦ inl (inl memory)
      | inr first ↦ inr (inl (inr (c.in_ok-settings.settings, c.in_ok-settings.ensures.said faithful, first)))
    ])

pub returns-in_err-scripts-clause-err : goal.returns-in_err-scripts-clause-err
returns-in_err-scripts-clause-err g c = λ faithful.
    let F = g.F.Folder in
    let files = (F.device.contents c.args.folder.now).files in
    let tables = tables_of g.T.Transforms.meanings g.A.Actions.meanings c.args.tables.now in
    let settings = c.in_ok-settings.settings in
    let before = c.read_scripts.ensures.reads.requests.back faithful in
    let Bad = Refused tables files (F.device.failures c.args.folder.now) (F.device.failures c.read_scripts.new.folder) in
    let fault = c.in_err-scripts.field-0.0 in
    handed _ Bad c.from_residual-in_err-scripts.result fault c.from_residual-in_err-scripts.ensures.1
    (elim (c.in_err-scripts.ensures.said faithful) [
      | inl machine ↦ inl (machine_before _ _ _ fault c.read_settings_of.ensures.reads.requests.count c.read_scripts.ensures.reads.requests.count machine)
      | inr bad ↦ inr (inr (
        settings,
        (settings, c.in_ok-settings.ensures.said before, (c.in_ok-projects.ensures.faults, refl)),
        scripts_here (F.device.contents c.read_settings_of.new.folder) (F.device.contents c.args.folder.now) c.as_slice.result.now (projects_of settings) (Err fault)
            (c.read_settings_of.ensures.reads.same before) (c.as_slice.ensures.value ∙ c.in_ok-projects.ensures.projects) bad,
      ))
    ])

pub returns-clause-found : goal.returns-clause-found
returns-clause-found g c = λ faithful.
    let F = g.F.Folder in
    let files = (F.device.contents c.args.folder.now).files in
    let settings = c.in_ok-settings.settings in
    let before = c.read_scripts.ensures.reads.requests.back faithful in
    let tables = tables_of g.T.Transforms.meanings g.A.Actions.meanings c.args.tables.now in
    faulty tables files settings c.in_ok-scripts.scripts.items
    (settings, c.in_ok-settings.ensures.said before, (c.in_ok-projects.ensures.faults, refl))
    (scripts_here (F.device.contents c.read_settings_of.new.folder) (F.device.contents c.args.folder.now) c.as_slice.result.now (projects_of settings) (Ok c.in_ok-scripts.scripts.items)
    (c.read_settings_of.ensures.reads.same before) (c.as_slice.ensures.value ∙ c.in_ok-projects.ensures.projects) (c.in_ok-scripts.ensures.said faithful))
    c.first_fault.result c.first_fault.ensures.first c.first_fault.ensures.at

pub returns-clause-err : goal.returns-clause-err
returns-clause-err g c = λ faithful.
    let F = g.F.Folder in
    let files = (F.device.contents c.args.folder.now).files in
    let tables = tables_of g.T.Transforms.meanings g.A.Actions.meanings c.args.tables.now in
    memory_alone tables files (F.device.failures c.args.folder.now) (F.device.failures c.read_scripts.new.folder) c.first_fault.result c.first_fault.ensures.err
