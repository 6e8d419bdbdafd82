-- What scripts declare has paths of tasks: projects are named so by settings, and tasks by scripts.
use Rattle.std.specs.Prelude.{ℕ, ◌≡◌, ◌++◌, ◌&&◌, ◌||◌, Bool, true, false, List, [], ◌∷◌, Option, None, Some, Result, Ok, Err, IsTrue, bytes_eq, codes, length, nat_le}
use Rattle.std.specs.List.{AllByRecursion, cons_option}
use Rattle.std.proofs.Common.{refl, sym, subst, ap}
use Rattle.gb_build.specs.Found.{IsDeclared, WereParsed}
use Rattle.gb_build.specs.Scripts.{script_places}
use Rattle.gb_build.specs.Texts.{FileMeans}
use Rattle.gb_core.proofs.Parts.{parts_make}
use Rattle.gb_core.specs.Path.{is_project_path, is_task_path}
use Rattle.gb_folder.specs.Files.{Bytes, Place}
use Rattle.gb_plan.proofs.Tests.{each_all, each_of_all, left_of, or_right}
use Rattle.gb_registry.proofs.Fine.{is_fine, projects_fine}
use Rattle.gb_registry.specs.Projects.{Path, folder_text, project_paths, projects_of, root_path}
use Rattle.gb_registry.specs.Said.{Said, all_said, paths_of, registered_path, said_by}
use Rattle.gb_registry.specs.Source.{Source}
use Rattle.gb_registry.specs.Tables.{Tables}
use Rattle.gb_report.specs.declared.fault.Fault.{Fault}
use Rattle.gb_script.specs.Fits.{IsScript, IsStatement}
use Rattle.gb_script.specs.Script.{HasMeaning}
use Rattle.gb_script.specs.declared.script.Statement.{Statement}
use Rattle.gb_script.specs.declared.script.Statement.TheVariants as statements
use Rattle.gb_folder.specs.Calls.{Device}

-- each is the path of a task
abbrev pub AreTaskPaths : List Path → Type 0
AreTaskPaths paths = AllByRecursion (λ (path : Path). IsTrue (is_task_path path)) paths

-- a well-formed statement in the script of a project
abbrev IsSaidWell : Said → Type 0
IsSaidWell s = (is_project_path s.project ≡ true) × IsStatement s.statement

-- ---- Paths

fine_path : (path : Path) (b : Bool) → bytes_eq path root_path ≡ b → (b || (is_task_path path && nat_le (length (folder_text path)) 896)) ≡ true → is_project_path path ≡ true
fine_path path true is fine = ap (λ b. b || is_task_path path) is
fine_path path false is fine = or_right (bytes_eq path (codes ":")) (is_task_path path) (left_of (is_task_path path) (nat_le (length (folder_text path)) 896) fine)

registered_well : (project : Path) (statement : Statement) (rest : List Path) → is_project_path project ≡ true → IsStatement statement → AreTaskPaths rest
    → AreTaskPaths (cons_option (registered_path (record { project = project; statement = statement })) rest)
registered_well project (statements.DefaultTasks texts) rest good is all = all
registered_well project (statements.Property name) rest good is all = all
registered_well project (statements.Set a) rest good is all = all
registered_well project (statements.Convention a) rest good is all = all
registered_well project (statements.Unset name) rest good is all = all
registered_well project (statements.DisallowChanges name) rest good is all = all
registered_well project (statements.Register r) rest good is all = ((parts_make project r.name good is.name).0, all)
registered_well project (statements.Named c) rest good is all = all

paths_well : (said : List Said) → AllByRecursion IsSaidWell said → AreTaskPaths (paths_of said)
paths_well [] all = tt
paths_well (s ∷ said) all = registered_well s.project s.statement (paths_of said) all.0.0 all.0.1 (paths_well said all.1)

said_well : (project : Path) (script : List Statement) (others : List Said) → is_project_path project ≡ true → IsScript script → AllByRecursion IsSaidWell others
    → AllByRecursion IsSaidWell (said_by (project, script) ++ others)
said_well project [] others good is all = all
said_well project (statement ∷ script) others good is all = ((good, is.0), said_well project script others good is.1 all)

all_well : (projects : List Path) (texts : List (List Statement)) → AllByRecursion (λ (path : Path). is_project_path path ≡ true) projects → AllByRecursion IsScript texts
    → AllByRecursion IsSaidWell (all_said projects texts)
all_well [] [] good is = tt
all_well [] (text ∷ texts) good is = tt
all_well (project ∷ projects) [] good is = tt
all_well (project ∷ projects) (text ∷ texts) good is = said_well project text (all_said projects texts) good.0 is.0 (all_well projects texts good.1 is.1)

-- ---- Scripts that were found

abbrev text_of : Result (List Statement) Fault → List Statement
text_of (Ok text) = text
text_of (Err fault) = []

file_well : (place : Place) (found : Option Bytes) (text : List Statement) → FileMeans HasMeaning place found (Ok text) → IsScript text
file_well place None text says = let none : text ≡ [] = ap text_of says in subst IsScript (sym none) tt
file_well place (Some bytes) text says = says.is

module _ {F : Type 0} (device : Device F) (old begun : F) where
  texts_well : (places : List Place) (texts : List (List Statement)) → WereParsed device old begun places texts → AllByRecursion IsScript texts
  texts_well [] [] parsed = tt
  texts_well [] (text ∷ texts) parsed = absurd parsed
  texts_well (place ∷ places) [] parsed = absurd parsed
  texts_well (place ∷ places) (text ∷ texts) parsed = (file_well place parsed.0.0 text parsed.0.2, texts_well places texts parsed.1)

  -- each path that is registered is that of a task
  pub named : {M A Z S T : Type 0} (tables : Tables M A Z S T) (given : List (List ℕ × List ℕ)) (source : Source)
      → IsDeclared device tables given old begun source → AreTaskPaths (paths_of source.said)
  named tables given source declared =
      subst (λ (s : Source). AreTaskPaths (paths_of s.said)) (sym declared.declares)
      (paths_well (all_said (project_paths declared.settings) declared.texts)
      (all_well (project_paths declared.settings) declared.texts
      (each_all _ _ (λ (path : Path) fine. fine_path path (bytes_eq path root_path) refl fine) (project_paths declared.settings)
      (each_of_all is_fine (project_paths declared.settings) (projects_fine declared.settings declared.settings_pass)))
      (texts_well (script_places (projects_of declared.settings)) declared.texts declared.parsed)))
