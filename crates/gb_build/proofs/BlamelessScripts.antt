-- What scripts declare is never the device's fault, and neither is a task that they register.
use Rattle.std.specs.Prelude.{ℕ, ◌≡◌, ◌++◌, ◌||◌, false, List, [], ◌∷◌, Option, Some, None, Result, Err, bytes_eq, codes, length, nat_le, nat_lt}
use Rattle.std.proofs.Common.{inl, inr, refl, ap, ◌∙◌}
use Rattle.gb_core.specs.Path.{is_project_path, task_name}
use Rattle.gb_folder.specs.Files.{Bytes, Files, Place, file_at}
use Rattle.gb_semantics.specs.Headline.{is_of_device}
use Rattle.gb_registry.specs.Configure.{configure_faults}
use Rattle.gb_registry.specs.Projects.{Path, absolute, crowd_faults, folder_text, included, is_among, lineage_of, path_faults, paths_faults, place_faults, root_path, settings_faults, text_faults, texts_faults, with_path, with_paths}
use Rattle.gb_registry.specs.Source.{Source, source_of}
use Rattle.gb_registry.specs.Tables.{Tables}
use Rattle.gb_report.specs.declared.fault.Fault.{Fault}
use Rattle.gb_report.specs.declared.fault.Fault.TheVariants as faults
use Rattle.gb_report.specs.declared.fault.Limited.TheVariants as limited
use Rattle.gb_script.specs.Script.{HasMeaning, MeansAsSettings}
use Rattle.gb_script.specs.declared.fault.ScriptFault.{ScriptFault}
use Rattle.gb_script.specs.declared.fault.ScriptFault.TheVariants as scripts
use Rattle.gb_build.specs.Scripts.{FolderDeclares, SettingsDeclare, SourceDeclares, settings_place}
use Rattle.gb_build.specs.Texts.{FileMeans, TextMeans, in_file}
use Rattle.gb_build.proofs.Blameless.{AreBlameless, all_append, configure_blameless, either, first_blameless, one_or_none}

-- ---- Settings

place_blameless : (path : Path) → AreBlameless (place_faults path)
place_blameless path = one_or_none (bytes_eq (task_name path) (codes "build") || nat_lt 896 (length (folder_text path))) (faults.BadProjectPlace path) refl

crowd_blameless : (there : List Path) → AreBlameless (crowd_faults there)
crowd_blameless there = one_or_none (nat_le 256 (length there)) (faults.TooMany limited.Projects) refl

path_blameless : (there : List Path) (path : Path) → AreBlameless (path_faults there path)
path_blameless there path =
    either (is_among there path) [] (place_faults path ++ crowd_faults there) tt (all_append (place_faults path) (crowd_faults there) (place_blameless path) (crowd_blameless there))

paths_blameless : (there paths : List Path) → AreBlameless (paths_faults there paths)
paths_blameless there [] = tt
paths_blameless there (path ∷ paths) =
    all_append (path_faults there path) (paths_faults (with_path there path) paths) (path_blameless there path) (paths_blameless (with_path there path) paths)

text_blameless : (there : List Path) (text : List ℕ) → AreBlameless (text_faults there text)
text_blameless there text =
    either (is_project_path (absolute root_path text)) (paths_faults there (lineage_of text)) (faults.BadName text ∷ []) (paths_blameless there (lineage_of text)) (refl, tt)

texts_blameless : (there : List Path) (texts : List (List ℕ)) → AreBlameless (texts_faults there texts)
texts_blameless there [] = tt
texts_blameless there (text ∷ texts) =
    all_append (text_faults there text) (texts_faults (with_paths there (lineage_of text)) texts) (text_blameless there text) (texts_blameless (with_paths there (lineage_of text)) texts)

pub settings_blameless : (settings : List (List (List ℕ))) → AreBlameless (settings_faults settings)
settings_blameless settings = texts_blameless (root_path ∷ []) (included settings)

-- ---- Texts

in_file_blameless : (place : Place) (fault : ScriptFault) → is_of_device (in_file place fault) ≡ false
in_file_blameless place scripts.OutOfMemory = refl
in_file_blameless place (scripts.Syntax line) = refl
in_file_blameless place scripts.TooLong = refl
in_file_blameless place (scripts.TooDeep line) = refl
in_file_blameless place scripts.NotUtf8 = refl

abbrev failed : (X : Type 0) → Fault → Result X Fault
failed X fault = Err fault

same_error : (X : Type 0) (a b : Fault) → failed X a ≡ failed X b → a ≡ b
same_error X a b is = cc

as_other : (fault other : Fault) → fault ≡ other → is_of_device other ≡ false → is_of_device fault ≡ false
as_other fault other same none = ap is_of_device same ∙ none

module _ {X : Type 0} (MeansAs : Bytes → Result (List X) ScriptFault → Type 0) (place : Place) (fault : Fault) where
  file_blameless : (bytes : Option Bytes) → FileMeans MeansAs place bytes (Err fault) → is_of_device fault ≡ false
  file_blameless None says = cc
  file_blameless (Some bytes) says = as_other fault (in_file place says.0) says.2 (in_file_blameless place says.0)

  text_says_blameless : (files : Files) → TextMeans MeansAs files place (Err fault) → is_of_device fault ≡ false
  text_says_blameless files (inl blocked) = as_other fault (faults.Blocked place) (same_error (List X) fault (faults.Blocked place) blocked.1) refl
  text_says_blameless files (inr says) = file_blameless (file_at files place) says.1

-- ---- Scripts

settings_say_blameless : (files : Files) (fault : Fault) → SettingsDeclare files (Err fault) → is_of_device fault ≡ false
settings_say_blameless files fault (inl says) = text_says_blameless MeansAsSettings settings_place fault files says
settings_say_blameless files fault (inr later) = first_blameless (settings_faults later.0) fault (settings_blameless later.0) later.2

module _ {M F Z S A : Type 0} (tables : Tables M F Z S A) where
  source_says_blameless : (source : Source) (fault : Fault) → SourceDeclares tables source (Err fault) → is_of_device fault ≡ false
  source_says_blameless source fault says = first_blameless (configure_faults tables source) fault (configure_blameless tables source) says

  -- what the scripts of a folder are refused for is not the device's fault
  pub says_blame_none : (files : Files) (given : List (List ℕ × List ℕ)) (fault : Fault) → FolderDeclares tables files given (Err fault) → is_of_device fault ≡ false
  says_blame_none files given fault (inl says) = settings_say_blameless files fault says
  says_blame_none files given fault (inr (settings, said, inl first)) = text_says_blameless HasMeaning first.place fault files first.here
  says_blame_none files given fault (inr (settings, said, inr (texts, all, says))) = source_says_blameless (source_of settings texts given) fault says
