-- Where scripts register tasks.
use Rattle.std.specs.Prelude.{ℕ, ◌≡◌, false, IsTrue, List, [], ◌∷◌, ◌++◌, Contains, MatchOption, Some}
use Rattle.std.specs.Prelude.{Err, codes}
use Rattle.gb_core.specs.Path.{task_in}
use Rattle.gb_core.specs.Place.{is_place, joined}
use Rattle.gb_folder.specs.Files.{Bytes, Files, Place, file_at, is_blocked}
use Rattle.gb_folder.specs.declared.folder.FolderFault.{FolderFault}
use Rattle.gb_folder.specs.declared.folder.FolderFault.TheVariants as folders
use Rattle.gb_registry.specs.Projects.{Path, folder_of}
use Rattle.gb_registry.specs.References.{Names}
use Rattle.gb_registry.specs.Tables.{Tables}
use Rattle.gb_report.specs.declared.fault.Fault.{Fault}
use Rattle.gb_report.specs.declared.fault.Fault.TheVariants as faults
use Rattle.gb_script.specs.Lines.{AreLinesOf}
use Rattle.gb_script.specs.Script.{HasMeaning}
use Rattle.gb_script.specs.declared.fault.ScriptFault.{ScriptFault}
use Rattle.gb_script.specs.declared.fault.ScriptFault.TheVariants as texts
use Rattle.gb_script.specs.declared.script.Statement.{Statement}
use Rattle.gb_script.specs.declared.script.Statement.TheVariants as statements
use Rattle.gb_folder.specs.Faults.{reported_at}
use Rattle.gb_check.specs.Marks.{Lines, first_lines, marks_of, other_lines, script_scope}
use Rattle.gb_check.specs.declared.clause_lines.ClauseMark.{ClauseMark}
use Rattle.gb_check.specs.declared.sites.Site.{Site}

-- the task that a statement in this line registers, if it registers one
abbrev pub registered_at : Path → Place → ℕ → Statement → List Site
registered_at project script line (statements.Register r) =
    record { path = task_in project r.name; script = script; line = line } ∷ []
registered_at project script line (statements.DefaultTasks x) = []
registered_at project script line (statements.Property x) = []
registered_at project script line (statements.Set x) = []
registered_at project script line (statements.Convention x) = []
registered_at project script line (statements.Unset x) = []
registered_at project script line (statements.DisallowChanges x) = []
registered_at project script line (statements.Named x) = []

-- the tasks that the script of a project registers, by the lines of its statements
abbrev pub sites_of : Path → Place → List Statement → List Lines → List Site
sites_of project script [] lines = []
sites_of project script (statement ∷ statements) lines =
    registered_at project script (first_lines lines).0 statement
    ++ sites_of project script statements (other_lines lines)

abbrev pub script_of_project : Path → Place
script_of_project project = joined (folder_of project) (codes "build.gb")

-- the lines of the statements of the file at a place; none if there is no file
abbrev pub AreLinesAt : Files → Place → List Lines → Type 0
AreLinesAt files place lines =
    MatchOption (file_at files place) (lines ≡ []) (λ bytes. AreLinesOf bytes lines)

module _ {M F Z S A : Type 0} (tables : Tables M F Z S A) (names : Names) (known : Type 0)
    (files : Files) where
  -- Where these scripts register tasks, in their order, each with the line in which its statement begins, and
  -- the marks of their clauses. If the contents of the folder are known, the lines are those of the files.
  abbrev pub AreSites : List (Path × List Statement) → List Site → List ClauseMark → Type 0
  AreSites [] sites marks = (sites ≡ []) × (marks ≡ [])
  AreSites (script ∷ scripts) sites marks =
      (lines : List Lines) × (others : List Site) × (words : List ClauseMark)
      × (known → AreLinesAt files (script_of_project script.0) lines)
      × AreSites scripts others words
      × (sites ≡ sites_of script.0 (script_of_project script.0) script.1 lines ++ others)
      × (marks
      ≡ marks_of tables (script_scope names script.0 script.1) script.0 script.1 lines ++ words)

-- ---- Why a script has no lines

-- a fault of a text, with the place of its file
abbrev pub in_file : Place → ScriptFault → Fault
in_file place texts.OutOfMemory = faults.OutOfMemory
in_file place (texts.Syntax line) = faults.Syntax place line
in_file place texts.TooLong = faults.TooLong place
in_file place (texts.TooDeep line) = faults.TooDeep place line
in_file place texts.NotUtf8 = faults.NotUtf8 place

-- a fault of the folder while a text is read: a file that is too large is a text that is too long
abbrev pub unread_at : Place → FolderFault → Fault
unread_at place folders.TooLarge = faults.TooLong place
unread_at place other = reported_at place other

-- Why a script has no lines: its place is invalid, another file blocks it, or its text is not a script.
pub data HasTextFault (files : Files) (place : Place) (fault : Fault) : Type 0 where
  no_place : is_place place ≡ false → fault ≡ faults.BadPlace (codes "build.gb")
      → HasTextFault files place fault
  blocked : IsTrue (is_blocked files place) → fault ≡ faults.Blocked place → HasTextFault files place fault
  no_script : (bytes : Bytes) (of : ScriptFault) → file_at files place ≡ Some bytes
      → HasMeaning bytes (Err of) → fault ≡ in_file place of → HasTextFault files place fault

-- one of these scripts has no lines, for this reason
pub record IsUnread (files : Files) (scripts : List (Path × List Statement)) (fault : Fault) : Type 0 where
  pub script : Path × List Statement
  pub is_one : Contains scripts script
  pub has : HasTextFault files (script_of_project script.0) fault
