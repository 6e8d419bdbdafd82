-- What each file of `.gb` is.
use Rattle.std.specs.Prelude.{ℕ, ◌≡◌, ◌⊎◌, Bool, false, List, [], ◌∷◌, ◌++◌, Some, None, IsTrue}
use Rattle.std.specs.Prelude.{codes, if◌then◌else◌}
use Rattle.std.specs.List.{AllZip}
use Rattle.gb_folder.specs.Files.{Contents, Files, Place, is_special_under, places_under}
use Rattle.gb_history.specs.Record.{Record}
use Rattle.gb_plan.specs.Task.{Path, has_path}
use Rattle.gb_records.specs.Said.{IsReadAt}
use Rattle.gb_report.specs.declared.fault.Fault.{Fault}
use Rattle.gb_report.specs.declared.fault.Fault.TheVariants as faults
use Rattle.gb_folder.specs.Faults.{IsOfMachine}
use Rattle.gb_query.specs.Owner.{IsOwner}
use Rattle.gb_query.specs.declared.inventory.Entry.{Entry}
use Rattle.gb_query.specs.declared.inventory.Entry.TheVariants as entries

-- the files have a record of the task
abbrev pub HasRecord : Files → Path → Type 0
HasRecord files path = (run : Record) × IsReadAt files path (Some run)

-- A file is the record of a registered task or of one that is not registered; or it is no record, at a place
-- where the record of a task belongs; or it is at a place where no record belongs.
abbrev pub IsEntryOf : Files → List Path → Place → Entry → Type 0
IsEntryOf files registered place (entries.Record path) =
    IsOwner place (Some path) × HasRecord files path × IsTrue (has_path registered path)
IsEntryOf files registered place (entries.Unregistered path) =
    IsOwner place (Some path) × HasRecord files path × (has_path registered path ≡ false)
IsEntryOf files registered place (entries.Damaged path) = IsOwner place (Some path) × IsReadAt files path None
IsEntryOf files registered place (entries.Foreign at) = IsOwner place None × (at ≡ place)

-- exactly the files of `.gb`, in the order of their places
abbrev pub AreEntriesOf : Files → List Path → List Entry → Type 0
AreEntriesOf files registered found =
    AllZip (IsEntryOf files registered) (places_under files (codes ".gb")) found

-- ---- Records of tasks that are not registered

-- The task whose record a file is, if the task is not registered. There is none if the task is registered,
-- the file is no record, or no record belongs at its place.
pub data IsLeftAt (files : Files) (registered : List Path) (place : Place) (row : List Path) : Type 0 where
  left : (path : Path) → IsOwner place (Some path) → HasRecord files path → has_path registered path ≡ false
      → row ≡ path ∷ [] → IsLeftAt files registered place row
  known : (path : Path) → IsOwner place (Some path) → IsTrue (has_path registered path) → row ≡ []
      → IsLeftAt files registered place row
  damaged : (path : Path) → IsOwner place (Some path) → IsReadAt files path None → row ≡ []
      → IsLeftAt files registered place row
  foreign : IsOwner place None → row ≡ [] → IsLeftAt files registered place row

-- this task, or none
abbrev pub row_if : Bool → Path → List Path
row_if is path = if is then path ∷ [] else []

-- all such tasks, in the order of these places
abbrev pub AreLeftAt : Files → List Path → List Place → List Path → Type 0
AreLeftAt files registered [] found = found ≡ []
AreLeftAt files registered (place ∷ places) found =
    (row : List Path) × (rows : List Path) × IsLeftAt files registered place row
    × AreLeftAt files registered places rows × (found ≡ row ++ rows)

-- exactly those of the files of `.gb`; or there is a file whose name is no place's, and none is found
abbrev pub AreUnregistered : Contents → List Path → List Path → Type 0
AreUnregistered contents registered found =
    AreLeftAt contents.files registered (places_under contents.files (codes ".gb")) found
    ⊎ (IsTrue (is_special_under contents (codes ".gb")) × (found ≡ []))

-- Why the files of `.gb` cannot be listed or read: memory ran out, the device failed between these counts, or
-- a file there has a name that is no place's.
abbrev pub IsUnlisted : Contents → ℕ → ℕ → Fault → Type 0
IsUnlisted contents before after fault =
    IsOfMachine before after fault
    ⊎ (IsTrue (is_special_under contents (codes ".gb")) × (fault ≡ faults.BadFileName (codes ".gb")))
