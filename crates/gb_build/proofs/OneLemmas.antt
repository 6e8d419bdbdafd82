-- Folders declare one thing.
use Rattle.std.proofs.Common.{◌≡◌, List, [], ◌∷◌, ◌++◌, Option, None, Some, Result, Ok, Err, refl, sym, ap, subst, ◌∙◌, inl, inr}
use Rattle.std.proofs.lemmas.Bool.{false≢true}
use Rattle.std.specs.List.{AllZip}
use Rattle.gb_folder.specs.Files.{Place, Bytes, Files, file_at}
use Rattle.gb_report.specs.declared.fault.Fault.{Fault}
use Rattle.gb_registry.specs.Configure.{configure_faults}
use Rattle.gb_registry.specs.Projects.{projects_of, settings_faults}
use Rattle.gb_registry.specs.Source.{source_of}
use Rattle.gb_registry.specs.Tables.{Tables}
use Rattle.gb_script.proofs.Sources.{one_said}
use Rattle.gb_script.proofs.StatementLaws.{Reads-script, script_ends_text, Reads-settings, settings_end_text}
use Rattle.gb_script.specs.Script.{HasMeaning, MeansAsSettings}
use Rattle.gb_script.specs.declared.fault.ScriptFault.{ScriptFault}
use Rattle.gb_build.proofs.ExecutionLemmas.{IsOne, passes_one, executions_one}
use Rattle.gb_build.specs.Laws.{FoldersDeclareOneThing}
use Rattle.gb_build.specs.Scripts.{ScriptsDeclare, SettingsDeclare, SourceDeclares, script_places, settings_place}
use Rattle.gb_build.specs.Texts.{FileMeans, TextMeans, in_file}
use Rattle.gb_build.specs.Executions.{InTurn, Passes}

module _ {X : Type 0} (MeansAs : Bytes → Result (List X) ScriptFault → Type 0) (one : (bytes : Bytes) (a b : Result (List X) ScriptFault) → MeansAs bytes a → MeansAs bytes b → a ≡ b) (place : Place) where
  file_one : (file : Option Bytes) → IsOne (FileMeans MeansAs place file)
  file_one None a b is also = is ∙ sym also
  file_one (Some bytes) (Ok a) (Ok b) is also = ap Ok (let e = one bytes (Ok a) (Ok b) is also in cc)
  file_one (Some bytes) (Ok a) (Err f) is (reported, also, same) = absurd (let e = one bytes (Ok a) (Err reported) is also in cc)
  file_one (Some bytes) (Err e) (Ok b) (reported, is, same) also = absurd (let e = one bytes (Err reported) (Ok b) is also in cc)
  file_one (Some bytes) (Err e) (Err f) (reported, is, same) (other, also, too) =
      let h : reported ≡ other = (let e = one bytes (Err reported) (Err other) is also in cc) in
      ap Err (same ∙ ap (in_file place) h ∙ sym too)

  pub text_one : (files : Files) → IsOne (TextMeans MeansAs files place)
  text_one files a b (inl (x, is)) (inl (y, also)) = is ∙ sym also
  text_one files a b (inl (x, is)) (inr (y, also)) = absurd (false≢true (sym y ∙ x))
  text_one files a b (inr (x, is)) (inl (y, also)) = absurd (false≢true (sym x ∙ y))
  text_one files a b (inr (x, is)) (inr (y, also)) = file_one (file_at files place) a b is also

-- ---- Scripts in a row

module _ {P T : Type 0} (S : P → Result T Fault → Type 0) (one : (p : P) → IsOne (S p)) where
  same_text : (p : P) (t u : T) → S p (Ok t) → S p (Ok u) → t ≡ u
  same_text p t u a b = let e = one p (Ok t) (Ok u) a b in cc

  no_both : (p : P) (t : T) (fault : Fault) → S p (Ok t) → S p (Err fault) → ⊥
  no_both p t fault a b = let e = one p (Ok t) (Err fault) a b in cc

  abbrev All : List P → List T → Type 0
  All ps ts = AllZip (λ p t. S p (Ok t)) ps ts

  all_one : (ps : List P) (ts us : List T) → All ps ts → All ps us → ts ≡ us
  all_one [] [] [] a b = refl
  all_one [] [] (u ∷ us) a b = absurd b
  all_one [] (t ∷ ts) us a b = absurd a
  all_one (p ∷ ps) [] us a b = absurd a
  all_one (p ∷ ps) (t ∷ ts) [] a b = absurd b
  all_one (p ∷ ps) (t ∷ ts) (u ∷ us) a b = ap (λ x. x ∷ ts) (same_text p t u a.0 b.0) ∙ ap (λ xs. u ∷ xs) (all_one ps ts us a.1 b.1)

  -- where all declare something none has a fault
  none_bad : (ps : List P) (ts : List T) (prefix back : List P) (p : P) (fault : Fault) → All ps ts → ps ≡ prefix ++ p ∷ back → S p (Err fault) → ⊥
  none_bad [] ts prefix back p fault a is bad = nothing prefix is
    where
      nothing : (prefix : List P) → let none : List P = [] in none ≡ prefix ++ p ∷ back → ⊥
      nothing [] e = cc
      nothing (q ∷ prefix) e = cc
  none_bad (q ∷ ps) [] prefix back p fault a is bad = absurd a
  none_bad (q ∷ ps) (t ∷ ts) [] back p fault a is bad =
      let e : q ≡ p = cc in no_both q t fault a.0 (subst (λ r. S r (Err fault)) (sym e) bad)
  none_bad (q ∷ ps) (t ∷ ts) (r ∷ prefix) back p fault a is bad =
      let e : ps ≡ prefix ++ p ∷ back = cc in none_bad ps ts prefix back p fault a.1 e bad

  -- the first fault is one
  first_one : (prefix other back rest : List P) (ts us : List T) (p q : P) (e f : Fault) → prefix ++ p ∷ back ≡ other ++ q ∷ rest → All prefix ts → All other us
      → S p (Err e) → S q (Err f) → e ≡ f
  first_one [] [] back rest ts us p q e f is a b bad worse =
      let h : p ≡ q = cc in
      let g = one q (Err e) (Err f) (subst (λ r. S r (Err e)) h bad) worse in
      cc
  first_one [] (r ∷ other) back rest ts [] p q e f is a b bad worse = absurd b
  first_one [] (r ∷ other) back rest ts (u ∷ us) p q e f is a b bad worse =
      let h : p ≡ r = cc in absurd (no_both r u e b.0 (subst (λ s. S s (Err e)) h bad))
  first_one (r ∷ prefix) [] back rest [] us p q e f is a b bad worse = absurd a
  first_one (r ∷ prefix) [] back rest (t ∷ ts) us p q e f is a b bad worse =
      let h : r ≡ q = cc in absurd (no_both r t f a.0 (subst (λ s. S s (Err f)) (sym h) worse))
  first_one (r ∷ prefix) (s ∷ other) back rest [] us p q e f is a b bad worse = absurd a
  first_one (r ∷ prefix) (s ∷ other) back rest (t ∷ ts) [] p q e f is a b bad worse = absurd b
  first_one (r ∷ prefix) (s ∷ other) back rest (t ∷ ts) (u ∷ us) p q e f is a b bad worse =
      let h : prefix ++ p ∷ back ≡ other ++ q ∷ rest = cc in first_one prefix other back rest ts us p q e f h a.1 b.1 bad worse

script_one : (files : Files) (place : Place) → IsOne (TextMeans HasMeaning files place)
script_one files place = text_one HasMeaning (one_said Reads-script script_ends_text) place files

scripts_one : (files : Files) (places : List Place) → IsOne (ScriptsDeclare files places)
scripts_one files places (Ok a) (Ok b) is also = ap Ok (all_one (TextMeans HasMeaning files) (script_one files) places a b is also)
scripts_one files places (Ok a) (Err f) is also = absurd (none_bad (TextMeans HasMeaning files) (script_one files) places a also.prefix also.back also.place f is also.all also.here)
scripts_one files places (Err e) (Ok b) is also = absurd (none_bad (TextMeans HasMeaning files) (script_one files) places b is.prefix is.back is.place e also is.all is.here)
scripts_one files places (Err e) (Err f) is also =
    ap Err (
    first_one (TextMeans HasMeaning files) (script_one files) is.prefix also.prefix is.back also.back is.texts also.texts is.place also.place e f (sym is.all ∙ also.all)
    is.before also.before is.here also.here
    )

settings_one : (files : Files) → IsOne (SettingsDeclare files)
settings_one files =
    executions_one (TextMeans MeansAsSettings files settings_place) (λ settings. Passes (settings_faults settings) settings)
    (text_one MeansAsSettings (one_said Reads-settings settings_end_text) settings_place files) (λ settings. passes_one (settings_faults settings) settings)

pub folders_one : {M F Z S A : Type 0} (tables : Tables M F Z S A) → FoldersDeclareOneThing tables
folders_one tables files given =
    executions_one (SettingsDeclare files)
    (λ settings. InTurn (ScriptsDeclare files (script_places (projects_of settings))) (λ texts. SourceDeclares tables (source_of settings texts given)))
    (settings_one files)
    (λ settings. executions_one (ScriptsDeclare files (script_places (projects_of settings)))
    (λ texts. SourceDeclares tables (source_of settings texts given))
    (scripts_one files (script_places (projects_of settings))) (λ texts. passes_one (configure_faults tables (source_of settings texts given)) (source_of settings texts given)))
