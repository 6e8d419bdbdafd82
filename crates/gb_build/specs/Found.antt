-- What scripts declare, as calls returned their texts, over any folder.
use Rattle.std.specs.Prelude.{ℕ, ◌≡◌, List, [], Option, None, Some, Result, Ok, Err}
use Rattle.std.specs.List.{AllZip}
use Rattle.gb_folder.specs.Answers.{IsOnWay}
use Rattle.gb_folder.specs.Calls.{Reads, Device}
use Rattle.gb_folder.specs.Files.{Bytes, Place}
use Rattle.gb_folder.specs.declared.folder.FolderFault.TheVariants as folders
use Rattle.gb_registry.specs.Configure.{configure_faults}
use Rattle.gb_registry.specs.Projects.{projects_of, settings_faults}
use Rattle.gb_registry.specs.Source.{Source, source_of}
use Rattle.gb_registry.specs.Tables.{Tables}
use Rattle.gb_script.specs.Script.{HasMeaning, MeansAsSettings}
use Rattle.gb_script.specs.declared.fault.ScriptFault.{ScriptFault}
use Rattle.gb_script.specs.declared.script.Statement.{Statement}
use Rattle.gb_build.specs.Scripts.{script_places, settings_place}
use Rattle.gb_build.specs.Texts.{FileMeans}

module _ {F : Type 0} (device : Device F) where
  -- What a call returned of the file at a place: its bytes, or that there is none.
  abbrev pub WasFound : F → F → Place → Option Bytes → Type 0
  WasFound old new place None =
      (limit : ℕ) × IsOnWay device (Reads place limit (Err folders.Missing)) old new
  WasFound old new place (Some bytes) =
      (limit : ℕ) × IsOnWay device (Reads place limit (Ok bytes)) old new

  -- In this notation it parses as this; where there is no file, nothing is declared.
  abbrev pub WasParsed : {X : Type 0} → (Bytes → Result (List X) ScriptFault → Type 0) → F → F → Place
      → List X → Type 0
  WasParsed MeansAs old new place said =
      (found : Option Bytes) × WasFound old new place found × FileMeans MeansAs place found (Ok said)

  -- the scripts at these places parse as these texts, place by place
  abbrev pub WereParsed : F → F → List Place → List (List Statement) → Type 0
  WereParsed old new places texts =
      AllZip (λ place text. WasParsed HasMeaning old new place text) places texts

  -- What the settings and the scripts of their projects declare, with these values given, as calls returned
  -- their texts. Nothing is wrong with it.
  pub record IsDeclared {M A Z S T : Type 0} (tables : Tables M A Z S T) (given : List (List ℕ × List ℕ))
      (old new : F) (source : Source) : Type 0 where
    pub settings : List (List (List ℕ))
    pub settings_parsed : WasParsed MeansAsSettings old new settings_place settings
    pub settings_pass : settings_faults settings ≡ []
    pub texts : List (List Statement)
    pub parsed : WereParsed old new (script_places (projects_of settings)) texts
    pub declares : source ≡ source_of settings texts given
    pub passes : configure_faults tables source ≡ []
