-- The first fault of a folder's statements, by what was read of it.
use Rattle.std.proofs.Common.{◌≡◌, ◌⊎◌, ◌∷◌, ℕ, List, [], Option, Some, None, Result, Ok, Err, inl, inr, refl, sym}
use Rattle.std.specs.Prelude.{IfErr, IfOk, IfSome, MatchOption, option_map, zip}
use Rattle.gb_folder.specs.Files.{Files}
use Rattle.gb_registry.specs.Configure.{configure_faults}
use Rattle.gb_registry.specs.Faults.{first_of}
use Rattle.gb_registry.specs.Faulty.{IsFirstAt}
use Rattle.gb_registry.specs.Projects.{project_paths, projects_of}
use Rattle.gb_registry.specs.Source.{source_of}
use Rattle.gb_registry.specs.Tables.{Tables}
use Rattle.gb_registry.specs.declared.first_fault.FaultAt.{FaultAt}
use Rattle.gb_report.specs.declared.fault.Fault.{Fault}
use Rattle.gb_report.specs.declared.fault.Fault.TheVariants as faults
use Rattle.gb_script.specs.declared.script.Statement.{Statement}
use Rattle.gb_folder.specs.Faults.{IsOfMachine}
use Rattle.gb_ask_command.specs.Faulty.{IsFaultless, IsFaulty, IsTextFault}
use Rattle.gb_build.proofs.OneLemmas.{folders_one}
use Rattle.gb_build.specs.Scripts.{FolderDeclares, ScriptsDeclare, SettingsDeclare, script_places}

no_first : (faults : List Fault) → None ≡ first_of faults → faults ≡ []
no_first [] is = refl
no_first (fault ∷ faults) is = absurd (cc)

module _ {M F Z S A : Type 0} (tables : Tables M F Z S A) (files : Files) where
  module _ (settings : List (List (List ℕ))) (texts : List (List Statement)) (settings_say : SettingsDeclare files (Ok settings))
      (scripts_say : ScriptsDeclare files (script_places (projects_of settings)) (Ok texts)) where
    pub faulty : (result : Result (Option FaultAt) Fault)
        → IfOk result (λ found. option_map (λ at. at.fault) found ≡ first_of (configure_faults tables (source_of settings texts [])))
        → IfOk result (λ found. IfSome found (IsFirstAt tables (source_of settings texts []).names (zip (project_paths settings) texts)))
        → IfOk result (λ found. MatchOption found (IsFaultless tables files) (IsFaulty tables files))
    faulty (Ok None) first at = record {
      settings = settings;
      texts = texts;
      settings_say = settings_say;
      scripts_say = scripts_say;
      none = no_first (configure_faults tables (source_of settings texts [])) first;
    }
    faulty (Ok (Some found)) first at = record {
      settings = settings;
      texts = texts;
      settings_say = settings_say;
      scripts_say = scripts_say;
      fault_is = sym first;
      first_at = at;
    }
    faulty (Err fault) first at = tt

  -- a fault of the machine, or of the texts
  abbrev pub Refused : ℕ → ℕ → Fault → Type 0
  Refused before after fault = IsOfMachine before after fault ⊎ IsTextFault files fault

  -- only memory ran out
  pub memory_alone : {X : Type 0} (before after : ℕ) (result : Result X Fault) → IfErr result (λ fault. fault ≡ faults.OutOfMemory)
      → IfErr result (Refused before after)
  memory_alone before after (Ok x) memory = tt
  memory_alone before after (Err fault) memory = inl (inl memory)

  -- scripts whose statements have no fault are refused only for a text
  pub of_texts : (given : List (List ℕ × List ℕ)) (fault : Fault) → IsFaultless tables files → FolderDeclares tables files given (Err fault) → IsTextFault files fault
  of_texts given fault faultless (inl settings) = inl settings
  of_texts given fault faultless (inr (settings, says, inl scripts)) = inr (settings, says, scripts)
  of_texts given fault faultless (inr (settings, says, inr (texts, are, wrong))) =
      let source = source_of faultless.settings faultless.texts given in
      let here : FolderDeclares tables files given (Ok source) = (faultless.settings, faultless.settings_say, (faultless.texts, faultless.scripts_say, (faultless.none, refl))) in
      let there : FolderDeclares tables files given (Err fault) = inr (settings, says, inr (texts, are, wrong)) in
      let two = folders_one tables files given (Ok source) (Err fault) here there in
      absurd (cc)
