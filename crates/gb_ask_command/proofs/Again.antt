-- Scripts that could be read can be read once more.
use Rattle.std.proofs.Common.{ℕ, ◌≡◌, ◌∙◌, ◌++◌, true, List, [], ◌∷◌, Option, Some, Result, Ok, Err, ap, inl, inr, subst, sym}
use Rattle.std.specs.List.{AllByRecursion, list_all}
use Rattle.std.specs.Prelude.{Contains, IfErr, IfOk, MatchResult, zip}
use Rattle.std.specs.Result.{IsErrAnd}
use Rattle.std.proofs.lemmas.Bool.{and_parts, false≢true}
use Rattle.std.proofs.lemmas.List.Elements.{All-contains, All-from_recursion}
use Rattle.gb_core.specs.Place.{is_place}
use Rattle.gb_folder.specs.Files.{Bytes, Files, Place}
use Rattle.gb_registry.specs.Projects.{Path, project_paths, projects_of, with_folders}
use Rattle.gb_registry.specs.Read.{IsRead}
use Rattle.gb_registry.specs.Source.{Source}
use Rattle.gb_registry.specs.Tables.{Tables}
use Rattle.gb_registry.specs.declared.first_fault.FaultAt.{FaultAt}
use Rattle.gb_report.specs.declared.fault.Fault.{Fault}
use Rattle.gb_script.proofs.Sources.{one_said}
use Rattle.gb_script.proofs.StatementLaws.{Reads-script, script_ends_text}
use Rattle.gb_script.specs.Script.{HasMeaning}
use Rattle.gb_script.specs.declared.script.Statement.{Statement}
use Rattle.gb_build.proofs.PlaceLemmas.{places_good}
use Rattle.gb_build.specs.Scripts.{AreTexts, FolderDeclares, SettingsDeclare, script_places}
use Rattle.gb_build.specs.Texts.{FileMeans, TextMeans}
use Rattle.gb_ask_command.specs.Faulty.{IsFaulty}
use Rattle.gb_check.specs.Sites.{HasTextFault, IsUnread, blocked, no_place, no_script, script_of_project}

module _ (files : Files) where
  -- the place of the project's script is one, and what is there can be read
  abbrev IsReadable : Path × List Statement → Type 0
  IsReadable script = (is_place (script_of_project script.0) ≡ true) × ((text : List Statement) × TextMeans HasMeaning files (script_of_project script.0) (Ok text))

  each_readable : (paths : List Path) (texts others : List (List Statement)) → AreTexts files (script_places (with_folders paths)) texts
      → list_all is_place (script_places (with_folders paths)) ≡ true → AllByRecursion IsReadable (zip paths others)
  each_readable [] texts others are good = tt
  each_readable (path ∷ paths) texts [] are good = tt
  each_readable (path ∷ paths) [] (other ∷ others) are good = absurd are
  each_readable (path ∷ paths) (text ∷ texts) (other ∷ others) are good =
      let parts = and_parts (is_place (script_of_project path)) (list_all is_place (script_places (with_folders paths))) good in
      ((parts.0, (text, are.0)), each_readable paths texts others are.1 parts.1)

  no_fault : (place : Place) (text : List Statement) (fault : Fault) → is_place place ≡ true → TextMeans HasMeaning files place (Ok text) → HasTextFault files place fault → ⊥
  no_fault place text fault good says (no_place bad is) = false≢true (sym bad ∙ good)
  no_fault place text fault good (inl (in_way, wrong)) (blocked exists is) = cc
  no_fault place text fault good (inr (free, says)) (blocked exists is) = false≢true (sym free ∙ exists)
  no_fault place text fault good (inl (in_way, wrong)) (no_script bytes of at bad is) = cc
  no_fault place text fault good (inr (free, says)) (no_script bytes of at bad is) =
      let here : FileMeans HasMeaning place (Some bytes) (Ok text) = subst (λ (file : Option Bytes). FileMeans HasMeaning place file (Ok text)) at says in
      let two = one_said Reads-script script_ends_text bytes (Ok text) (Err of) here bad in
      cc

-- no script has a fault if the folder declares a source
pub none_again : {M F Z S A : Type 0} (tables : Tables M F Z S A) (files : Files) (given : List (List ℕ × List ℕ)) (source : Source) (scripts : List (Path × List Statement)) (fault : Fault)
    → FolderDeclares tables files given (Ok source) → IsRead source scripts → IsUnread files scripts fault → ⊥
none_again tables files given source scripts fault (settings, (first, says_first, (none, same)), (texts, are, (_, is))) read unread =
    let good : list_all is_place (script_places (projects_of settings)) ≡ true = subst (λ s. list_all is_place (script_places (projects_of s)) ≡ true) (sym same) (places_good first none) in
    let paths : project_paths settings ≡ project_paths read.settings = ap (λ (s : Source). s.names.projects) (sym is ∙ read.said) in
    let each = each_readable files (project_paths settings) texts read.texts are good in
    let all = All-from_recursion (IsReadable files) (zip (project_paths settings) read.texts) each in
    let there : Contains (zip (project_paths settings) read.texts) unread.script =
    subst (λ (ps : List Path). Contains (zip ps read.texts) unread.script) (sym paths) (subst (λ ss. Contains ss unread.script) read.each unread.is_one) in
    let readable = All-contains (IsReadable files) (zip (project_paths settings) read.texts) unread.script all there in
    no_fault files (script_of_project unread.script.0) readable.1.0 fault readable.0 readable.1.1 unread.has

-- a statement's script is read
among : (P : Path × List Statement → Type 0) (before : List (Path × List Statement)) (one : Path × List Statement) (after : List (Path × List Statement))
    → AllByRecursion P (before ++ one ∷ after) → P one
among P [] one after all = all.0
among P (other ∷ before) one after all = among P before one after all.1

are_places : (files : Files) (settings : List (List (List ℕ))) → SettingsDeclare files (Ok settings) → list_all is_place (script_places (projects_of settings)) ≡ true
are_places files settings (first, says_first, (none, same)) = subst (λ s. list_all is_place (script_places (projects_of s)) ≡ true) (sym same) (places_good first none)

-- the script of a statement with a fault can be read once more
pub faulty_again : {M F Z S A : Type 0} (tables : Tables M F Z S A) (files : Files) (at : FaultAt) (fault : Fault) → IsFaulty tables files at
    → HasTextFault files (script_of_project at.project) fault → ⊥
faulty_again tables files at fault faulty bad =
    let settings = faulty.settings in
    let texts = faulty.texts in
    let first = faulty.first_at in
    let one : Path × List Statement = (at.project, first.earlier ++ first.statement ∷ first.later) in
    let each = each_readable files (project_paths settings) texts texts faulty.scripts_say (are_places files settings faulty.settings_say) in
    let readable = among (IsReadable files) first.before one first.after (subst (λ (scripts : List (Path × List Statement)). AllByRecursion (IsReadable files) scripts) first.all each) in
    no_fault files (script_of_project at.project) readable.1.0 fault readable.0 readable.1.1 bad

-- what holds of a fault that is returned holds of the result
pub handed : {T : Type 0} (Good : T → Type 0) (Bad : Fault → Type 0) (result : Result T Fault) (fault : Fault) → IsErrAnd result (λ reported. reported ≡ fault) → Bad fault → MatchResult result Good Bad
handed Good Bad (Ok x) fault is bad = absurd is
handed Good Bad (Err reported) fault is bad = subst Bad (sym is) bad

-- what holds of a result and what holds of an error, as one
pub match_of : {T : Type 0} (result : Result T Fault) (Good Better : T → Type 0) (known : Type 0) (Bad Worse : Fault → Type 0) → ((x : T) → Good x → Better x)
    → ((fault : Fault) → known → Bad fault → Worse fault) → IfOk result Good → (known → IfErr result Bad) → MatchResult result Better (λ fault. known → Worse fault)
match_of (Ok x) Good Better known Bad Worse better worse good bad = better x good
match_of (Err fault) Good Better known Bad Worse better worse good bad = λ reported. worse fault reported (bad reported)
