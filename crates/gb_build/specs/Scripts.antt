-- What the scripts of a folder declare.
use Rattle.std.specs.Prelude.{ℕ, ◌≡◌, Bool, ◌==◌, ◌||◌, List, ◌∷◌, ◌++◌, map, Option, Result, Ok}
use Rattle.std.specs.Prelude.{Err, bytes_eq, codes}
use Rattle.std.specs.List.{AllZip, after_last}
use Rattle.gb_core.specs.Place.{joined}
use Rattle.gb_folder.specs.Files.{Place, Files}
use Rattle.gb_registry.specs.Configure.{configure_faults}
use Rattle.gb_registry.specs.Projects.{Path, projects_of, settings_faults}
use Rattle.gb_registry.specs.Source.{Source, source_of}
use Rattle.gb_registry.specs.Tables.{Tables}
use Rattle.gb_report.specs.declared.fault.Fault.{Fault}
use Rattle.gb_script.specs.Script.{HasMeaning, MeansAsSettings}
use Rattle.gb_script.specs.declared.script.Statement.{Statement}
use Rattle.gb_build.specs.Texts.{TextMeans}
use Rattle.gb_build.specs.Executions.{InTurn, Passes}

-- ---- The places of scripts

abbrev pub settings_place : Place
settings_place = codes "settings.gb"

-- the script of a project is in its folder; the root has none
abbrev pub script_place : Option Place → Place
script_place folder = joined folder (codes "build.gb")

abbrev pub script_places : List (Path × Option Place) → List Place
script_places projects = map (λ project. script_place project.1) projects

-- the place is that of settings, or could be that of a script
abbrev pub is_script_place : Place → Bool
is_script_place place =
    bytes_eq place (codes "settings.gb") || bytes_eq (after_last (λ b. b == 47) place) (codes "build.gb")

-- ---- What they declare

-- what the settings of a folder declare, where nothing is wrong with what they include; or their first fault
abbrev pub SettingsDeclare : Files → Result (List (List (List ℕ))) Fault → Type 0
SettingsDeclare files said =
    InTurn (TextMeans MeansAsSettings files settings_place)
    (λ settings. Passes (settings_faults settings) settings)
    said

-- each of these texts is what the script at its place declares
abbrev pub AreTexts : Files → List Place → List (List Statement) → Type 0
AreTexts files places texts = AllZip (λ place text. TextMeans HasMeaning files place (Ok text)) places texts

-- the fault is that of the script at one of these places, and the scripts at the places before it have none
pub record IsFirstFault (files : Files) (places : List Place) (fault : Fault) : Type 0 where
  pub prefix : List Place
  pub place : Place
  pub back : List Place
  pub texts : List (List Statement)
  pub all : places ≡ prefix ++ place ∷ back
  pub before : AreTexts files prefix texts
  pub here : TextMeans HasMeaning files place (Err fault)

-- what the scripts at these places declare, a text for each; or their first fault
abbrev pub ScriptsDeclare : Files → List Place → Result (List (List Statement)) Fault → Type 0
ScriptsDeclare files places (Ok texts) = AreTexts files places texts
ScriptsDeclare files places (Err fault) = IsFirstFault files places fault

-- what all of these together declare, where nothing is wrong with its statements; or their first fault
abbrev pub SourceDeclares : {M F Z S A : Type 0} → Tables M F Z S A → Source → Result Source Fault → Type 0
SourceDeclares tables source said = Passes (configure_faults tables source) source said

-- What a folder declares, with these values given: what its settings and the scripts of their projects
-- declare. Of all faults the first counts: one of the text of settings, of what they include, of the text of
-- a script in the order of projects, and then of their statements.
abbrev pub FolderDeclares : {M F Z S A : Type 0} → Tables M F Z S A → Files → List (List ℕ × List ℕ)
    → Result Source Fault → Type 0
FolderDeclares tables files given said =
    InTurn (SettingsDeclare files)
    (λ settings. InTurn (ScriptsDeclare files (script_places (projects_of settings)))
    (λ texts. SourceDeclares tables (source_of settings texts given)))
    said
