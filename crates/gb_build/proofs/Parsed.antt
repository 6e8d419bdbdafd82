-- Texts that calls returned, and what they parse as.
use Rattle.std.specs.Prelude.{ℕ, ◌≡◌, List, [], ◌∷◌, Option, Some, None, Result, Ok, Err, IfOk, MatchResult}
use Rattle.std.proofs.Common.{ap, ◌∙◌}
use Rattle.gb_folder.specs.Calls.{Reads, Requests, no_change, Device}
use Rattle.gb_folder.specs.Device.{IsCalled}
use Rattle.gb_folder.specs.Files.{Bytes, Place}
use Rattle.gb_folder.specs.declared.folder.FolderFault.TheVariants as folders
use Rattle.gb_folder.proofs.Answering.{on_longer_way, on_way_here}
use Rattle.gb_report.specs.declared.fault.Fault.{Fault}
use Rattle.gb_script.specs.Script.{HasMeaning, MeansAsSettings}
use Rattle.gb_script.specs.declared.fault.ScriptFault.{ScriptFault}
use Rattle.gb_script.specs.declared.script.Statement.{Statement}
use Rattle.gb_registry.specs.Configure.{configure_faults}
use Rattle.gb_registry.specs.Faults.{ReportsFirst}
use Rattle.gb_registry.specs.Projects.{projects_of, settings_faults}
use Rattle.gb_registry.specs.Source.{Source, source_of}
use Rattle.gb_registry.specs.Tables.{Tables}
use Rattle.gb_build.specs.Found.{IsDeclared, WasFound, WasParsed, WereParsed}
use Rattle.gb_build.specs.Scripts.{script_places, settings_place}

module _ {F : Type 0} {device : Device F} where
  found_longer : {first old new end : F} → Requests device no_change first old → Requests device no_change new end
      → (place : Place) (found : Option Bytes) → WasFound device old new place found → WasFound device first end place found
  found_longer before following place None was = (was.0, on_longer_way before following was.1)
  found_longer before following place (Some bytes) was = (was.0, on_longer_way before following was.1)

  -- what was parsed of a part of the calls was parsed of all
  pub parsed_longer : {X : Type 0} (MeansAs : Bytes → Result (List X) ScriptFault → Type 0) {first old new end : F} → Requests device no_change first old
      → Requests device no_change new end → (place : Place) (said : List X) → WasParsed device MeansAs old new place said
      → WasParsed device MeansAs first end place said
  parsed_longer MeansAs before following place said was = (was.0, found_longer before following place was.0 was.1, was.2)

  pub all_parsed_longer : {first old new end : F} → Requests device no_change first old → Requests device no_change new end
      → (places : List Place) (texts : List (List Statement)) → WereParsed device old new places texts → WereParsed device first end places texts
  all_parsed_longer before following [] [] were = tt
  all_parsed_longer before following [] (text ∷ texts) were = absurd were
  all_parsed_longer before following (place ∷ places) [] were = absurd were
  all_parsed_longer before following (place ∷ places) (text ∷ texts) were =
      (parsed_longer HasMeaning before following place text were.0, all_parsed_longer before following places texts were.1)

module _ {F : Type 0} (device : Device F) where
  -- a text that was read here
  pub parsed_here : {X : Type 0} (MeansAs : Bytes → Result (List X) ScriptFault → Type 0) (old new : F) (place : Place) (limit : ℕ) (bytes : Bytes) (Else : Fault → Type 0) (result : Result (List X) Fault)
      → IsCalled device old (Reads place limit (Ok bytes)) new → MatchResult result (λ said. MeansAs bytes (Ok said)) Else → IfOk result (WasParsed device MeansAs old new place)
  parsed_here MeansAs old new place limit bytes Else (Ok said) is says = (Some bytes, (limit, on_way_here is), says)
  parsed_here MeansAs old new place limit bytes Else (Err fault) is says = tt

  -- there was no file
  pub none_here : {X : Type 0} (MeansAs : Bytes → Result (List X) ScriptFault → Type 0) (old new : F) (place : Place) (limit : ℕ) (said : List X)
      → IsCalled device old (Reads place limit (Err folders.Missing)) new → said ≡ [] → WasParsed device MeansAs old new place said
  none_here MeansAs old new place limit said is none = (None, (limit, on_way_here is), ap Ok none)

  -- what the texts that were parsed declare, where nothing is wrong with it
  pub declared_here : {M A Z S T V : Type 0} (tables : Tables M A Z S T) (given : List (List ℕ × List ℕ)) (old new : F) (settings : List (List (List ℕ))) (texts : List (List Statement))
      (result : Result V Fault) (registry : V → Source) → WasParsed device MeansAsSettings old new settings_place settings → settings_faults settings ≡ []
      → WereParsed device old new (script_places (projects_of settings)) texts → IfOk result (λ made. registry made ≡ source_of settings texts given)
      → ReportsFirst (configure_faults tables (source_of settings texts given)) result → IfOk result (λ made. IsDeclared device tables given old new (registry made))
  declared_here tables given old new settings texts (Ok made) registry parsed pass all is first = record {
    settings = settings;
    settings_parsed = parsed;
    settings_pass = pass;
    texts = texts;
    parsed = all;
    declares = is;
    passes = ap (configure_faults tables) is ∙ first;
  }
  declared_here tables given old new settings texts (Err fault) registry parsed pass all is first = tt
