use Rattle.std.proofs.Common.{◌≡◌, List, Option, Ok, Err, ap, subst, ◌∙◌, inl, inr}
use Rattle.std.proofs.lemmas.List.{length-map}
use Rattle.std.proofs.lemmas.Result.{err_from_is_err_and}
use Rattle.std.specs.Prelude.{IfOk, length}
use Rattle.std.specs.List.{list_all}
use Rattle.gb_core.specs.Place.{is_place}
use Rattle.gb_registry.specs.Faults.{ReportsFirst}
use Rattle.gb_registry.specs.Projects.{Path, folder_of, projects_of, settings_faults, with_folders}
use Rattle.gb_registry.specs.Source.{source_with}
use Rattle.gb_registry.specs.Configure.{configure_faults}
use Rattle.gb_registry.specs.Tables.{tables_of}
use Rattle.gb_folder.proofs.Machine.{handed_on, machine_before}
use Rattle.gb_build.proofs.Blameless.{configure_blameless, none_blamed}
use Rattle.gb_build.proofs.BlamelessScripts.{settings_blameless}
use Rattle.gb_build.proofs.PlaceLemmas.{places_good}
use Rattle.gb_build.proofs.SaidLemmas.{handed, put_together, scripts_here, scripts_refused}
use Rattle.gb_folder.specs.Files.{Place}
use Rattle.gb_folder.proofs.Asked.{requests_nothing}
use Rattle.gb_script.specs.Script.{MeansAsSettings}
use Rattle.gb_build.specs.Found.{WereParsed}
use Rattle.gb_build.specs.Scripts.{script_places, settings_place}
use Rattle.gb_build.proofs.Parsed.{all_parsed_longer, declared_here, parsed_longer}
use Rattle.gb_build.proofs.workspace.read_registry.Goals as goal

pub returns-in_err-projects-clause-blame : goal.returns-in_err-projects-clause-blame
returns-in_err-projects-clause-blame g c = λ place device.
    let p = err_from_is_err_and c.from_residual-in_err-projects.result c.from_residual-in_err-projects.ensures.1 in
    absurd (none_blamed (settings_faults c.in_ok-settings.settings) c.of.result place (settings_blameless c.in_ok-settings.settings) c.of.ensures.faults
    (handed_on c.from_residual-in_err-projects.result c.of.result p.0 c.in_err-projects.field-0.0 place p.1 p.2 c.in_err-projects.was device))

pub returns-in_err-projects-clause-blamed : goal.returns-in_err-projects-clause-blamed
returns-in_err-projects-clause-blamed g c = λ place device.
    let p = err_from_is_err_and c.from_residual-in_err-projects.result c.from_residual-in_err-projects.ensures.1 in
    absurd (none_blamed (settings_faults c.in_ok-settings.settings) c.of.result place (settings_blameless c.in_ok-settings.settings) c.of.ensures.faults
    (handed_on c.from_residual-in_err-projects.result c.of.result p.0 c.in_err-projects.field-0.0 place p.1 p.2 c.in_err-projects.was device))

pub read_scripts-requires : goal.read_scripts-requires
read_scripts-requires g c = record {
  places =
      ap (λ projects. list_all is_place (script_places projects)) (c.as_slice.ensures ∙ ap with_folders c.in_ok-projects.ensures.projects)
      ∙ places_good c.in_ok-settings.settings c.in_ok-projects.ensures.faults;
}

pub returns-in_err-scripts-clause-said : goal.returns-in_err-scripts-clause-said
returns-in_err-scripts-clause-said g c = λ faithful.
    let F = g.F.Folder in
    let settings = c.in_ok-settings.settings in
    let files = (F.device.contents c.args.folder.now).files in
    let fault = c.in_err-scripts.field-0.0 in
    handed _ _ c.from_residual-in_err-scripts.result fault c.from_residual-in_err-scripts.ensures.1
    (elim (c.in_err-scripts.ensures.said faithful) [
      | inl machine ↦ inl (machine_before _ _ _ fault c.read_settings_of.ensures.reads.requests.count c.read_scripts.ensures.reads.requests.count machine)
      | inr bad ↦ inr (scripts_refused (tables_of g.T.Transforms.meanings g.A.Actions.meanings c.args.tables.now) files c.args.given.items settings
          (c.in_ok-settings.ensures.said (c.read_scripts.ensures.reads.requests.back faithful)) c.in_ok-projects.ensures.faults fault (
          scripts_here (F.device.contents c.read_settings_of.new.folder) (F.device.contents c.args.folder.now) c.as_slice.result.now (projects_of settings) (Err fault)
          (c.read_settings_of.ensures.reads.same (c.read_scripts.ensures.reads.requests.back faithful)) (c.as_slice.ensures ∙ ap with_folders c.in_ok-projects.ensures.projects) bad))
    ])

pub configure_projects-requires : goal.configure_projects-requires
configure_projects-requires g c = record {
  of_settings = (c.in_ok-settings.settings, c.in_ok-projects.ensures.faults, c.in_ok-projects.ensures.projects);
  one_each =
      c.in_ok-scripts.ensures.one_each ∙ ap length c.as_slice.ensures
      ∙ length-map c.in_ok-projects.projects (λ (path : Path). (path, folder_of path));
}

pub returns-clause-blame : goal.returns-clause-blame
returns-clause-blame g c = λ place device.
    let tables = tables_of g.T.Transforms.meanings g.A.Actions.meanings c.args.tables.now in
    let source = source_with c.in_ok-projects.projects c.in_ok-scripts.scripts.items c.args.given.items in
    absurd (none_blamed (configure_faults tables source) c.configure_projects.result place (configure_blameless tables source) c.configure_projects.ensures.faults device)

pub returns-clause-blamed : goal.returns-clause-blamed
returns-clause-blamed g c = λ place device.
    let tables = tables_of g.T.Transforms.meanings g.A.Actions.meanings c.args.tables.now in
    let source = source_with c.in_ok-projects.projects c.in_ok-scripts.scripts.items c.args.given.items in
    absurd (none_blamed (configure_faults tables source) c.configure_projects.result place (configure_blameless tables source) c.configure_projects.ensures.faults device)

pub returns-clause-said : goal.returns-clause-said
returns-clause-said g c = λ faithful.
    let F = g.F.Folder in
    let tables = tables_of g.T.Transforms.meanings g.A.Actions.meanings c.args.tables.now in
    let files = (F.device.contents c.args.folder.now).files in
    let settings = c.in_ok-settings.settings in
    let texts = c.in_ok-scripts.scripts.items in
    let given = c.args.given.items in
    let projects = c.in_ok-projects.ensures.projects in
    put_together tables files given settings (c.in_ok-settings.ensures.said (c.read_scripts.ensures.reads.requests.back faithful)) c.in_ok-projects.ensures.faults texts _ _ c.configure_projects.result (λ configured. configured.registry)
    (scripts_here (F.device.contents c.read_settings_of.new.folder) (F.device.contents c.args.folder.now) c.as_slice.result.now (projects_of settings) (Ok texts)
    (c.read_settings_of.ensures.reads.same (c.read_scripts.ensures.reads.requests.back faithful)) (c.as_slice.ensures ∙ ap with_folders projects) (c.in_ok-scripts.ensures.said faithful))
    (subst (λ (paths : List Path). IfOk c.configure_projects.result (λ configured. configured.registry ≡ source_with paths texts given)) projects c.configure_projects.ensures.registry)
    (subst (λ (paths : List Path). ReportsFirst (configure_faults tables (source_with paths texts given)) c.configure_projects.result) projects c.configure_projects.ensures.faults)

pub returns-clause-declared : goal.returns-clause-declared
returns-clause-declared g c =
    let F = g.F.Folder in
    let tables = tables_of g.T.Transforms.meanings g.A.Actions.meanings c.args.tables.now in
    let old = c.args.folder.now in
    let new = c.read_scripts.new.folder in
    let texts = c.in_ok-scripts.scripts.items in
    let given = c.args.given.items in
    let projects = c.in_ok-projects.ensures.projects in
    declared_here F.device tables given old new c.in_ok-settings.settings texts c.configure_projects.result (λ configured. configured.registry)
    (parsed_longer MeansAsSettings (requests_nothing old) c.read_scripts.ensures.reads.requests settings_place c.in_ok-settings.settings c.in_ok-settings.ensures.parsed)
    c.in_ok-projects.ensures.faults
    (subst (λ (ps : List (Path × Option Place)). WereParsed F.device old new (script_places ps) texts) (c.as_slice.ensures ∙ ap with_folders projects)
    (all_parsed_longer c.read_settings_of.ensures.reads.requests (requests_nothing new) _ texts c.in_ok-scripts.ensures.parsed))
    (subst (λ (paths : List Path). IfOk c.configure_projects.result (λ configured. configured.registry ≡ source_with paths texts given)) projects c.configure_projects.ensures.registry)
    (subst (λ (paths : List Path). ReportsFirst (configure_faults tables (source_with paths texts given)) c.configure_projects.result) projects c.configure_projects.ensures.faults)
