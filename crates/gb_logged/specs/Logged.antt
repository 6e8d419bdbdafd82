-- Folders that keep their calls, with the answers.
use Rattle.std.specs.Prelude.{◌≡◌, ◌⊎◌, List, [], ◌∷◌, ◌++◌, map, Some}
use Rattle.gb_folder.specs.Calls.{Call, Lists, Reads, ReadsPart, Writes, Removes, Requests}
use Rattle.gb_folder.specs.Calls.{fault_of, no_change}
use Rattle.gb_folder.specs.declared.folder.FolderFault.TheVariants as folders
use Rattle.gb_logged.specs.declared.logged.LoggedCall.{LoggedCall}
use Rattle.gb_logged.specs.declared.logged.LoggedCall.TheVariants as kept
use Rattle.gb_logged.specs.declared.logged.LoggedFolder.{LoggedFolder}
use Rattle.gb_folder.specs.Calls.{Device}

-- the call that was kept
abbrev pub call_of : LoggedCall → Call
call_of (kept.Lists root answer) = Lists root answer
call_of (kept.Reads place limit answer) = Reads place limit answer
call_of (kept.ReadsPart place at len answer) = ReadsPart place at len answer
call_of (kept.Writes place bytes limit answer) = Writes place bytes limit answer
call_of (kept.Removes place answer) = Removes place answer

-- the calls that were kept
abbrev pub log_of : List LoggedCall → List Call
log_of calls = map call_of calls

-- the calls that a folder keeps
abbrev pub log : {F : Type 0} → LoggedFolder F → List Call
log folder = log_of folder.calls.items

-- The call is kept, and the inner folder was asked for it; or memory ran out, nothing is kept, and the inner
-- folder was asked for no change.
abbrev pub allowed_over : {F : Type 0} → Device F → LoggedFolder F → Call → LoggedFolder F → Type 0
allowed_over device old call new =
    ((log new ≡ log old ++ call ∷ []) × device.allowed old.inner call new.inner)
    ⊎ ((log new ≡ log old) × (fault_of call ≡ Some folders.OutOfMemory)
    × Requests device no_change old.inner new.inner)

-- Each state of a folder keeps the calls that led to it, with their answers. A call for which memory ran out
-- may be left out.
pub record LogsCalls {F : Type 0} (allowed : F → Call → F → Type 0) (log : F → List Call) : Type 0 where
  pub kept : (old : F) (call : Call) (new : F) → allowed old call new
      → (log new ≡ log old ++ call ∷ []) ⊎ ((log new ≡ log old) × (fault_of call ≡ Some folders.OutOfMemory))
