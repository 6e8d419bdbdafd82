-- Calls that are valid for a type of folders, and sequences of calls as values.
use Rattle.std.specs.Prelude.{ℕ, ◌≡◌, ◌≢◌, ◌<◌, ◌≤◌, List, [], ◌∷◌, Some, Result, Ok, Err}
use Rattle.std.specs.Prelude.{⊤, length}
use Rattle.std.specs.List.{AllPass}
use Rattle.std.specs.List.Sorted.{IsStrictlySortedBy}
use Rattle.gb_core.specs.Lists.{byte_order}
use Rattle.gb_core.specs.Place.{is_under}
use Rattle.gb_folder.specs.Call.{Call, Device, Lists, Reads, ReadsPart, Writes, Removes, fault_of}
use Rattle.gb_folder.specs.Files.{Bytes, HasRisen, Place, SameTearing}
use Rattle.gb_folder.specs.Semantics.{Answer, Answers}
use Rattle.gb_folder.specs.declared.folder.FolderFault.{FolderFault}
use Rattle.gb_folder.specs.declared.folder.FolderFault.TheVariants as folders

-- ---- Answers that a folder may give, whatever its contents

abbrev pub ListsWell : Place → Result (List Place) FolderFault → Type 0
ListsWell root (Ok places) =
    AllPass (λ place. is_under place root) places × IsStrictlySortedBy byte_order places
ListsWell root (Err fault) = fault ≢ folders.TooLarge

abbrev pub ReadsWell : ℕ → Result Bytes FolderFault → Type 0
ReadsWell limit (Ok bytes) = length bytes ≤ limit
ReadsWell limit (Err fault) = fault ≢ folders.BadFileName

abbrev pub ReadsPartWell : ℕ → Result Bytes FolderFault → Type 0
ReadsPartWell len (Ok part) = length part ≤ len
ReadsPartWell len (Err fault) = (fault ≢ folders.TooLarge) × (fault ≢ folders.BadFileName)

abbrev pub WritesWell : Bytes → ℕ → Answer → Type 0
WritesWell bytes limit (Ok done) = length bytes ≤ limit
WritesWell bytes limit (Err fault) =
    (fault ≡ folders.TooLarge → limit < length bytes) × (fault ≢ folders.Missing)
    × (fault ≢ folders.BadFileName)

abbrev pub RemovesWell : Answer → Type 0
RemovesWell (Ok done) = ⊤
RemovesWell (Err fault) = (fault ≢ folders.TooLarge) × (fault ≢ folders.BadFileName)

abbrev pub IsWell : Call → Type 0
IsWell (Lists root answer) = ListsWell root answer
IsWell (Reads place limit answer) = ReadsWell limit answer
IsWell (ReadsPart place at len answer) = ReadsPartWell len answer
IsWell (Writes place bytes limit answer) = WritesWell bytes limit answer
IsWell (Removes place answer) = RemovesWell answer

-- ---- Calls

-- One call of a folder, with its answer: the type of the folder allows it (`allowed`), some contents could
-- give the answer (`well`), the count of failures does not fall and rises if the device failed (`count`,
-- `risen`), a torn write may leave what it might before (`tearing`). Where contents are known afterwards,
-- they were before (`back`), and the answer is exactly theirs (`exact`).
pub record IsCalled {F : Type 0} (device : Device F) (old : F) (call : Call) (new : F) : Type 0 where
  pub allowed : device.allowed old call new
  pub well : IsWell call
  pub count : device.failures old ≤ device.failures new
  pub tearing : SameTearing (device.may_leave old) (device.may_leave new)
  pub risen : fault_of call ≡ Some folders.Device → HasRisen (device.failures old) (device.failures new)
  pub back : device.faithful new → device.faithful old
  pub exact : device.faithful new
      → Answers (device.may_leave old) (device.contents old) call (device.contents new)

-- These calls, one after another, lead from the first state of the folder to the second.
abbrev pub Leads : {F : Type 0} → Device F → F → List Call → F → Type 0
Leads device old [] new = new ≡ old
Leads {F = F} device old (call ∷ calls) new =
    (mid : F) × IsCalled device old call mid × Leads device mid calls new
