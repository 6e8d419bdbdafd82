-- Texts read one after another.
use Rattle.std.proofs.Common.{◌≡◌, ◌<◌, ◌+◌, Option, ℕ, zero, suc, List, [], ◌∷◌, ◌++◌, Bool, true, take, drop, length, length-append, get_or, Ok, Err, sym, ap, ◌∙◌, arith}
use Rattle.std.specs.List.{list_all}
use Rattle.std.proofs.lemmas.List.{take_more, map-append}
use Rattle.gb_core.proofs.TaskPaths.{left_of, right_of}
use Rattle.gb_folder.specs.Files.{Place, Files}
use Rattle.gb_registry.specs.Projects.{Path}
use Rattle.gb_report.specs.declared.fault.Fault.{Fault}
use Rattle.gb_script.specs.Script.{HasMeaning}
use Rattle.gb_script.specs.declared.script.Statement.{Statement}
use Rattle.gb_build.specs.Found.{WasParsed, WereParsed}
use Rattle.gb_build.specs.Scripts.{AreTexts, IsFirstFault, script_place, script_places}
use Rattle.gb_build.specs.Texts.{TextMeans}
use Rattle.gb_exec.proofs.Walking.{zip_more}
use Rattle.gb_folder.specs.Calls.{Device}

abbrev Projects : Type 0
Projects = List (Path × Option Place)

-- the places of some projects and one more
places_more : (projects : Projects) (i : ℕ) (project : Path × Option Place) → i < length projects → project ≡ get_or projects i project
    → script_places (take (i + 1) projects) ≡ script_places (take i projects) ++ script_place project.1 ∷ []
places_more projects i project low at =
    ap script_places (take_more projects i project low ∙ ap (λ p. take i projects ++ p ∷ []) (sym at))
    ∙ map-append (λ p. script_place p.1) (take i projects) (project ∷ [])

-- the script of one more project is read
pub text_more : (files : Files) (projects : Projects) (i : ℕ) (project : Path × Option Place) (texts more : List (List Statement)) (text : List Statement)
    → i < length projects → project ≡ get_or projects i project → AreTexts files (script_places (take i projects)) texts
    → TextMeans HasMeaning files (script_place project.1) (Ok text) → more ≡ texts ++ text ∷ [] → AreTexts files (script_places (take (i + 1) projects)) more
text_more files projects i project texts more text low at before here is =
    rw (places_more projects i project low at, is)
    (zip_more (λ place text. TextMeans HasMeaning files place (Ok text)) (script_places (take i projects)) texts (script_place project.1) text before here)

-- so do they if calls returned them
pub parsed_more : {F : Type 0} {device : Device F} {old new : F} (projects : Projects) (i : ℕ) (project : Path × Option Place)
    (texts more : List (List Statement)) (text : List Statement)
    → i < length projects → project ≡ get_or projects i project → WereParsed device old new (script_places (take i projects)) texts
    → WasParsed device HasMeaning old new (script_place project.1) text → more ≡ texts ++ text ∷ []
    → WereParsed device old new (script_places (take (i + 1) projects)) more
parsed_more {device = device} {old = old} {new = new} projects i project texts more text low at before here is =
    rw (places_more projects i project low at, is)
    (zip_more (λ place text. WasParsed device HasMeaning old new place text) (script_places (take i projects)) texts (script_place project.1) text before here)

-- one more makes one more
pub long_more : {X : Type 0} (xs more : List X) (x : X) (n : ℕ) → more ≡ xs ++ x ∷ [] → length xs ≡ n → length more ≡ n + 1
long_more xs more x n is long = ap length is ∙ length-append xs (x ∷ []) ∙ ap (λ m. m + 1) long

-- a row around one of it
around : {X : Type 0} (xs : List X) (i : ℕ) (x : X) → i < length xs → x ≡ get_or xs i x → xs ≡ take i xs ++ x ∷ drop (i + 1) xs
around [] i x low at = absurd (omega (arith, low))
around (y ∷ xs) zero x low at = ap (λ z. z ∷ xs) (sym at)
around (y ∷ xs) (suc i) x low at =
    let next : suc (i + 1) ≡ suc i + 1 = omega arith in
    ap (λ zs. y ∷ zs) (around xs i x (omega (arith, low)) at) ∙ ap (λ n. y ∷ take i xs ++ x ∷ drop n (y ∷ xs)) next

-- the script of the next project has the first fault
pub first_fault : (files : Files) (projects : Projects) (i : ℕ) (project : Path × Option Place) (texts : List (List Statement)) (fault : Fault)
    → i < length projects → project ≡ get_or projects i project → AreTexts files (script_places (take i projects)) texts
    → TextMeans HasMeaning files (script_place project.1) (Err fault) → IsFirstFault files (script_places projects) fault
first_fault files projects i project texts fault low at before here = record {
  prefix = script_places (take i projects);
  place = script_place project.1;
  back = script_places (drop (i + 1) projects);
  texts = texts;
  all = ap script_places (around projects i project low at) ∙ map-append (λ p. script_place p.1) (take i projects) (project ∷ drop (i + 1) projects);
  before = before;
  here = here;
}

-- what holds of the place of each script holds of this one's
pub passes_at : (test : Place → Bool) (projects : Projects) (i : ℕ) (project : Path × Option Place) → i < length projects → project ≡ get_or projects i project
    → list_all test (script_places projects) ≡ true → test (script_place project.1) ≡ true
passes_at test [] i project low at all = absurd (omega (arith, low))
passes_at test (p ∷ projects) zero project low at all = ap (λ q. test (script_place q.1)) at ∙ left_of (test (script_place p.1)) (list_all test (script_places projects)) all
passes_at test (p ∷ projects) (suc i) project low at all =
    passes_at test projects i project (omega (arith, low)) at (right_of (test (script_place p.1)) (list_all test (script_places projects)) all)
