-- What a folder declares, by what was read of it.
use Rattle.std.proofs.Common.{◌≡◌, ◌⊎◌, ℕ, List, [], Option, Result, Ok, Err, refl, sym, subst, inl, inr}
use Rattle.std.specs.Prelude.{IfOk, MatchResult}
use Rattle.std.specs.Result.{IsErrAnd}
use Rattle.gb_folder.specs.Files.{Contents, Files, Place}
use Rattle.gb_report.specs.declared.fault.Fault.{Fault}
use Rattle.gb_registry.specs.Configure.{configure_faults}
use Rattle.gb_registry.specs.Faults.{ReportsFirst}
use Rattle.gb_registry.specs.Projects.{Path, projects_of, settings_faults}
use Rattle.gb_registry.specs.Source.{Source, source_of}
use Rattle.gb_registry.specs.Tables.{Tables}
use Rattle.gb_script.specs.Script.{MeansAsSettings}
use Rattle.gb_script.specs.declared.script.Statement.{Statement}
use Rattle.gb_folder.specs.Faults.{IsOfMachine}
use Rattle.gb_build.specs.Scripts.{FolderDeclares, ScriptsDeclare, script_places, settings_place}
use Rattle.gb_build.specs.Texts.{TextMeans}

-- what holds of a fault that is passed on holds of the answer
pub handed : {T : Type 0} (Good : T → Type 0) (Bad : Fault → Type 0) (result : Result T Fault) (fault : Fault) → IsErrAnd result (λ reported. reported ≡ fault) → Bad fault → MatchResult result Good Bad
handed Good Bad (Ok x) fault is bad = absurd is
handed Good Bad (Err reported) fault is bad = subst Bad (sym is) bad

-- what scripts declare stays where the folder does
pub scripts_here : (new old : Contents) (folders projects : List (Path × Option Place)) (said : Result (List (List Statement)) Fault) → new ≡ old → folders ≡ projects
    → ScriptsDeclare new.files (script_places folders) said → ScriptsDeclare old.files (script_places projects) said
scripts_here new old folders projects said same are says =
    subst (λ (ps : List (Path × Option Place)). ScriptsDeclare old.files (script_places ps) said) are
    (subst (λ (folder : Contents). ScriptsDeclare folder.files (script_places folders) said) same says)

module _ {M F Z S A : Type 0} (tables : Tables M F Z S A) (files : Files) (given : List (List ℕ × List ℕ)) (settings : List (List (List ℕ)))
    (text : TextMeans MeansAsSettings files settings_place (Ok settings)) (none : settings_faults settings ≡ []) where
  -- the scripts have a fault
  pub scripts_refused : (fault : Fault) → ScriptsDeclare files (script_places (projects_of settings)) (Err fault) → FolderDeclares tables files given (Err fault)
  scripts_refused fault bad = inr (settings, (settings, text, (none, refl)), inl bad)

  -- the scripts are put together, or a statement has a fault
  pub put_together : {X : Type 0} (texts : List (List Statement)) (before after : ℕ) (result : Result X Fault) (registry : X → Source) → ScriptsDeclare files (script_places (projects_of settings)) (Ok texts)
      → IfOk result (λ x. registry x ≡ source_of settings texts given) → ReportsFirst (configure_faults tables (source_of settings texts given)) result
      → MatchResult result (λ x. FolderDeclares tables files given (Ok (registry x))) (λ fault. IsOfMachine before after fault ⊎ FolderDeclares tables files given (Err fault))
  put_together texts before after (Ok x) registry scripts same reported = (settings, (settings, text, (none, refl)), (texts, scripts, (reported, same)))
  put_together texts before after (Err fault) registry scripts same (inl memory) = inl (inl memory)
  put_together texts before after (Err fault) registry scripts same (inr first) = inr (inr (settings, (settings, text, (none, refl)), inr (texts, scripts, first)))
