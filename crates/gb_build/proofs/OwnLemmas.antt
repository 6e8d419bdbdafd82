-- The tool's own files declare nothing.
use Rattle.std.proofs.Common.{◌≡◌, ℕ, Bool, true, false, cond, not, ◌&&◌, ◌||◌, nat_eq, ◌==◌, List, [], ◌∷◌, ◌++◌, None, Some, Result, Ok, Err, length, refl, sym, ap, subst, ◌∙◌, true≢false, inl, inr, arith}
use Rattle.std.proofs.lemmas.Bool.Decides.{nat_tests}
use Rattle.std.proofs.lemmas.List.Folds.{list_all-append}
use Rattle.std.specs.Prelude.{bytes_eq, codes, nat_le}
use Rattle.std.specs.List.{list_all, onto_first, slice_split, starts_with}
use Rattle.gb_core.proofs.TaskPaths.{left_of, name_bytes, right_of}
use Rattle.gb_core.specs.Name.{is_letter, is_name}
use Rattle.gb_core.specs.Path.{is_task_path}
use Rattle.gb_core.specs.Place.{is_beneath}
use Rattle.gb_folder.proofs.Changes.{file_at-files_where}
use Rattle.gb_folder.specs.Files.{Place, Bytes, Files, file_at, files_where, is_blocked, is_own}
use Rattle.gb_report.specs.declared.fault.Fault.{Fault}
use Rattle.gb_registry.specs.Projects.{Path, folder_text, project_paths, projects_of, root_path, settings_faults, slashed, with_folders}
use Rattle.gb_registry.specs.Source.{Source, source_of}
use Rattle.gb_registry.specs.Tables.{Tables}
use Rattle.gb_script.specs.Script.{HasMeaning, MeansAsSettings}
use Rattle.gb_script.specs.declared.fault.ScriptFault.{ScriptFault}
use Rattle.gb_script.specs.declared.script.Statement.{Statement}
use Rattle.gb_registry.proofs.Fine.{AreFine, is_fine, projects_fine}
use Rattle.gb_build.proofs.ExecutionLemmas.{executions_stay}
use Rattle.gb_build.specs.Laws.{OwnFilesDeclareNothing}
use Rattle.gb_build.specs.Scripts.{AreTexts, FolderDeclares, ScriptsDeclare, SettingsDeclare, SourceDeclares, script_place, script_places, settings_place}
use Rattle.gb_build.specs.Texts.{FileMeans, TextMeans}
use Rattle.gb_build.specs.Executions.{InTurn, Passes}

-- the files that are not the tool's own
abbrev others : Files → Files
others files = files_where (λ place. not (is_own place)) files

-- a place begins with a dot
abbrev is_dotted : Place → Bool
is_dotted [] = false
is_dotted (c ∷ place) = nat_eq 46 c

-- it begins with another byte
abbrev pub is_plain : Place → Bool
is_plain [] = false
is_plain (c ∷ place) = not (nat_eq 46 c)

module _ (c : ℕ) (plain : not (nat_eq 46 c) ≡ true) where
  no_dot : nat_eq 46 c ≡ false
  no_dot = grind (arith, nat_tests)

  no_dot_back : nat_eq c 46 ≡ false
  no_dot_back = grind (arith, nat_tests)

  other_byte : (d : ℕ) → nat_eq 46 d ≡ true → nat_eq d c ≡ false
  other_byte d dot = grind (arith, nat_tests)

  other_byte_back : (d : ℕ) → nat_eq 46 d ≡ true → nat_eq c d ≡ false
  other_byte_back d dot = grind (arith, nat_tests)

-- what is plain is not the tool's own
pub plain_not_own : (place : Place) → is_plain place ≡ true → is_own place ≡ false
plain_not_own [] h = absurd (true≢false (sym h))
plain_not_own (c ∷ place) h =
    ap (λ b. b && bytes_eq place (codes "gb") || is_beneath (c ∷ place) (codes ".gb")) (no_dot_back c h)
    ∙ ap (λ b. b && starts_with nat_eq place (codes "gb/")) (no_dot c h)

-- what is the tool's own begins with a dot
own_is_dotted : (q : Place) → is_own q ≡ true → is_dotted q ≡ true
own_is_dotted [] own = absurd (true≢false (sym own))
own_is_dotted (c ∷ q) own = go (nat_eq 46 c) refl
  where
    go : (b : Bool) → nat_eq 46 c ≡ b → nat_eq 46 c ≡ true
    go true is = is
    go false is = absurd (true≢false (sym own ∙ plain_not_own (c ∷ q) (ap not is)))

-- the two are in no way of each other
separate : (place q : Place) → is_plain place ≡ true → is_dotted q ≡ true → (is_beneath place q || is_beneath q place) ≡ false
separate [] q plain dotted = absurd (true≢false (sym plain))
separate (c ∷ place) [] plain dotted = absurd (true≢false (sym dotted))
separate (c ∷ place) (d ∷ q) plain dotted =
    ap (λ b. b && starts_with nat_eq place (q ++ 47 ∷ []) || is_beneath (d ∷ q) (c ∷ place)) (other_byte c plain d dotted)
    ∙ ap (λ b. b && starts_with nat_eq q (place ++ 47 ∷ [])) (other_byte_back c plain d dotted)

-- the tool's own files are in no plain place's way
blocked_same : (files : Files) (place : Place) → is_plain place ≡ true → is_blocked (others files) place ≡ is_blocked files place
blocked_same [] place plain = refl
blocked_same (file ∷ files) place plain =
    elim (is_own file.0) as (λ b. is_own file.0 ≡ b → is_blocked (cond (not b) (file ∷ others files) (others files)) place ≡ is_blocked (file ∷ files) place) [
      | true ↦ λ own. blocked_same files place plain ∙ ap (λ b. b || is_blocked files place) (sym (separate place file.0 plain (own_is_dotted file.0 own)))
      | false ↦ λ _. ap (λ b. (is_beneath place file.0 || is_beneath file.0 place) || b) (blocked_same files place plain)
    ] refl

-- nor are they at one
found_same : (files : Files) (place : Place) → is_plain place ≡ true → file_at (others files) place ≡ file_at files place
found_same files place plain =
    file_at-files_where files (λ q. not (is_own q)) place ∙ ap (λ b. cond (not b) (file_at files place) None) (plain_not_own place plain)

-- ---- What is declared stays

abbrev AreAlike : Files → Files → Place → Type 0
AreAlike files other place = (is_blocked files place ≡ is_blocked other place) × (file_at files place ≡ file_at other place)

module _ {X : Type 0} (MeansAs : Bytes → Result (List X) ScriptFault → Type 0) (files other : Files) (place : Place) (alike : AreAlike files other place) where
  text_stays : (said : Result (List X) Fault) → TextMeans MeansAs files place said → TextMeans MeansAs other place said
  text_stays said (inl (blocked, is)) = inl (sym alike.0 ∙ blocked, is)
  text_stays said (inr (free, says)) = inr (sym alike.0 ∙ free, subst (λ o. FileMeans MeansAs place o said) alike.1 says)

module _ (files other : Files) (alike : (place : Place) → is_plain place ≡ true → AreAlike files other place) where
  texts_stay : (places : List Place) (texts : List (List Statement)) → list_all is_plain places ≡ true → AreTexts files places texts → AreTexts other places texts
  texts_stay [] [] plain all = tt
  texts_stay [] (text ∷ texts) plain all = absurd all
  texts_stay (place ∷ places) [] plain all = absurd all
  texts_stay (place ∷ places) (text ∷ texts) plain all = (
    text_stays HasMeaning files other place (alike place (left_of (is_plain place) (list_all is_plain places) plain)) (Ok text) all.0,
    texts_stay places texts (right_of (is_plain place) (list_all is_plain places) plain) all.1,
  )

  scripts_stay : (places : List Place) → list_all is_plain places ≡ true → (said : Result (List (List Statement)) Fault) → ScriptsDeclare files places said → ScriptsDeclare other places said
  scripts_stay places plain (Ok texts) all = texts_stay places texts plain all
  scripts_stay places plain (Err fault) first =
      let parts : (list_all is_plain first.prefix && list_all is_plain (first.place ∷ first.back)) ≡ true =
      sym (list_all-append is_plain first.prefix (first.place ∷ first.back)) ∙ ap (list_all is_plain) (sym first.all) ∙ plain in
      let prefixes = left_of (list_all is_plain first.prefix) (list_all is_plain (first.place ∷ first.back)) parts in
      let here = left_of (is_plain first.place) (list_all is_plain first.back) (right_of (list_all is_plain first.prefix) (list_all is_plain (first.place ∷ first.back)) parts) in
      record {
        prefix = first.prefix;
        place = first.place;
        back = first.back;
        texts = first.texts;
        all = first.all;
        before = texts_stay first.prefix first.texts prefixes first.before;
        here = text_stays HasMeaning files other first.place (alike first.place here) (Err fault) first.here;
      }

  settings_stay : (said : Result (List (List (List ℕ))) Fault) → SettingsDeclare files said → SettingsDeclare other said
  settings_stay =
      executions_stay (TextMeans MeansAsSettings files settings_place) (TextMeans MeansAsSettings other settings_place)
      (λ settings. Passes (settings_faults settings) settings) (λ settings. Passes (settings_faults settings) settings)
      (text_stays MeansAsSettings files other settings_place (alike settings_place refl)) (λ settings _ r says. says)

-- ---- Scripts are at plain places

letter_plain : (b : ℕ) → is_letter b ≡ true → not (nat_eq 46 (slashed b)) ≡ true
letter_plain b h = grind (arith, nat_tests)

-- the first part of a text that begins with a byte other than a colon begins so too
first_plain : (c : ℕ) (parts : List (List ℕ)) → list_all is_name (onto_first c parts) ≡ true → is_letter c ≡ true
first_plain c [] h = (name_bytes c [] (left_of (is_name (c ∷ [])) true h)).0
first_plain c (part ∷ parts) h = (name_bytes c part (left_of (is_name (c ∷ part)) (list_all is_name parts) h)).0

letter_first : (c : ℕ) (text : List ℕ) (b : Bool) → list_all is_name (cond b ([] ∷ slice_split (λ d. d == 58) text) (onto_first c (slice_split (λ d. d == 58) text))) ≡ true → is_letter c ≡ true
letter_first c text true h = absurd (true≢false (sym h))
letter_first c text false h = first_plain c (slice_split (λ d. d == 58) text) h

pub plain_folder : (path : Path) (rest : List ℕ) → is_task_path path ≡ true → is_plain (folder_text path ++ 47 ∷ rest) ≡ true
plain_folder [] rest h = absurd (true≢false (sym h))
plain_folder (colon ∷ []) rest h = absurd (true≢false (sym (right_of (colon == 58) false h)))
plain_folder (colon ∷ c ∷ text) rest h =
    letter_plain c (letter_first c text (c == 58) (right_of (colon == 58) (list_all is_name (slice_split (λ d. d == 58) (c ∷ text))) h))

plain_path : (path : Path) (b : Bool) → bytes_eq path root_path ≡ b → (b || (is_task_path path && nat_le (length (folder_text path)) 896)) ≡ true
    → is_plain (script_place (cond b None (Some (folder_text path)))) ≡ true
plain_path path true is fine = refl
plain_path path false is fine = plain_folder path (codes "build.gb") (left_of (is_task_path path) (nat_le (length (folder_text path)) 896) fine)

plain_places : (paths : List Path) → AreFine paths → list_all is_plain (script_places (with_folders paths)) ≡ true
plain_places [] fine = refl
plain_places (path ∷ paths) fine =
    ap (λ b. b && list_all is_plain (script_places (with_folders paths))) (plain_path path (bytes_eq path root_path) refl (left_of (is_fine path) (list_all is_fine paths) fine))
    ∙ plain_places paths (right_of (is_fine path) (list_all is_fine paths) fine)

module _ {M F Z S A : Type 0} (tables : Tables M F Z S A) (given : List (List ℕ × List ℕ)) (files other : Files) (alike : (place : Place) → is_plain place ≡ true → AreAlike files other place) where
  folder_stays : (said : Result Source Fault) → FolderDeclares tables files given said → FolderDeclares tables other given said
  folder_stays =
      executions_stay (SettingsDeclare files) (SettingsDeclare other)
      (λ settings. InTurn (ScriptsDeclare files (script_places (projects_of settings))) (λ texts. SourceDeclares tables (source_of settings texts given)))
      (λ settings. InTurn (ScriptsDeclare other (script_places (projects_of settings))) (λ texts. SourceDeclares tables (source_of settings texts given)))
      (settings_stay files other alike)
      (λ settings good.
      executions_stay (ScriptsDeclare files (script_places (projects_of settings))) (ScriptsDeclare other (script_places (projects_of settings)))
      (λ texts. SourceDeclares tables (source_of settings texts given))
      (λ texts. SourceDeclares tables (source_of settings texts given))
      (scripts_stay files other alike (script_places (projects_of settings)) (good_places settings good))
      (λ texts _ r says. says))
    where
      good_places : (settings : List (List (List ℕ))) → SettingsDeclare files (Ok settings) → list_all is_plain (script_places (projects_of settings)) ≡ true
      good_places settings (read, says, judged) =
          subst (λ s. list_all is_plain (script_places (projects_of s)) ≡ true) (sym judged.1) (plain_places (project_paths read) (projects_fine read judged.0))

pub own_say_nothing : {M F Z S A : Type 0} (tables : Tables M F Z S A) → OwnFilesDeclareNothing tables
own_say_nothing tables files given said = (
  folder_stays tables given (others files) files (λ place plain. (blocked_same files place plain, found_same files place plain)) said,
  folder_stays tables given files (others files) (λ place plain. (sym (blocked_same files place plain), sym (found_same files place plain))) said,
)
