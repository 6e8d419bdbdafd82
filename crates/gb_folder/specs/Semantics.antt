-- The answer of a folder to a call, and its contents after the call.
use Rattle.std.specs.Prelude.{ℕ, ◌≡◌, ◌<◌, ◌≤◌, false, List, [], ◌∷◌, Some, None, Result, Ok, Err, IsTrue}
use Rattle.std.specs.Prelude.{length, take, drop, IsSome}
use Rattle.gb_folder.specs.Call.{Call, Lists, Reads, ReadsPart, Writes, Removes}
use Rattle.gb_folder.specs.Files.{Bytes, Contents, IsFolder, IsTorn, Place, Tearing, file_at, is_blocked}
use Rattle.gb_folder.specs.Files.{is_special_under, places_under, with_file, without}
use Rattle.gb_folder.specs.declared.folder.FolderFault.{FolderFault}
use Rattle.gb_folder.specs.declared.folder.FolderFault.TheVariants as folders

-- the answer to a write or a removal
abbrev pub Answer : Type 0
Answer = Result (Unit {0}) FolderFault

abbrev pub Listed : Contents → Place → Result (List Place) FolderFault → Type 0
Listed old root (Ok places) = (places ≡ places_under old.files root) × (is_special_under old root ≡ false)
Listed old root (Err folders.OutOfMemory) = Unit {0}
Listed old root (Err folders.Device) = Unit {0}
Listed old root (Err folders.BadFileName) = IsTrue (is_special_under old root)
Listed old root (Err folders.Missing) = ⊥
Listed old root (Err folders.Blocked) = ⊥
Listed old root (Err folders.TooLarge) = ⊥

-- why a file was not read
abbrev pub Unread : Contents → Place → (Bytes → Type 0) → FolderFault → Type 0
Unread old place large folders.OutOfMemory = Unit {0}
Unread old place large folders.Device = Unit {0}
Unread old place large folders.Missing =
    (file_at old.files place ≡ None) × (is_blocked old.files place ≡ false)
Unread old place large folders.Blocked = IsTrue (is_blocked old.files place)
Unread old place large folders.TooLarge =
    (bytes : Bytes) × (file_at old.files place ≡ Some bytes) × large bytes
Unread old place large folders.BadFileName = ⊥

abbrev pub Read : Contents → Place → ℕ → Result Bytes FolderFault → Type 0
Read old place limit (Ok bytes) = (file_at old.files place ≡ Some bytes) × (length bytes ≤ limit)
Read old place limit (Err fault) = Unread old place (λ bytes. limit < length bytes) fault

abbrev pub ReadPart : Contents → Place → ℕ → ℕ → Result Bytes FolderFault → Type 0
ReadPart old place at len (Ok part) =
    (bytes : Bytes) × (file_at old.files place ≡ Some bytes) × (part ≡ take len (drop at bytes))
ReadPart old place at len (Err fault) = Unread old place (λ bytes. ⊥) fault

abbrev pub Wrote : Tearing → Contents → Place → Bytes → ℕ → Answer → Contents → Type 0
Wrote may_leave old place bytes limit (Ok done) new =
    (is_blocked old.files place ≡ false) × (length bytes ≤ limit)
    × (new ≡ record old { files = with_file old.files place bytes })
Wrote may_leave old place bytes limit (Err folders.OutOfMemory) new = new ≡ old
Wrote may_leave old place bytes limit (Err folders.Device) new = IsTorn may_leave place (Some bytes) old new
Wrote may_leave old place bytes limit (Err folders.Blocked) new =
    IsTrue (is_blocked old.files place) × (new ≡ old)
Wrote may_leave old place bytes limit (Err folders.TooLarge) new = (limit < length bytes) × (new ≡ old)
Wrote may_leave old place bytes limit (Err folders.Missing) new = ⊥
Wrote may_leave old place bytes limit (Err folders.BadFileName) new = ⊥

abbrev pub Removed : Tearing → Contents → Place → Answer → Contents → Type 0
Removed may_leave old place (Ok done) new =
    IsSome (file_at old.files place) × (new ≡ record old { files = without old.files place })
Removed may_leave old place (Err folders.OutOfMemory) new = new ≡ old
Removed may_leave old place (Err folders.Device) new = IsTorn may_leave place None old new
Removed may_leave old place (Err folders.Missing) new =
    (file_at old.files place ≡ None) × (is_blocked old.files place ≡ false) × (new ≡ old)
Removed may_leave old place (Err folders.Blocked) new = IsTrue (is_blocked old.files place) × (new ≡ old)
Removed may_leave old place (Err folders.TooLarge) new = ⊥
Removed may_leave old place (Err folders.BadFileName) new = ⊥

-- The answer of a call over these contents, and the contents that it leaves.
abbrev pub Answers : Tearing → Contents → Call → Contents → Type 0
Answers may_leave old (Lists root answer) new = Listed old root answer × (new ≡ old)
Answers may_leave old (Reads place limit answer) new = Read old place limit answer × (new ≡ old)
Answers may_leave old (ReadsPart place at len answer) new = ReadPart old place at len answer × (new ≡ old)
Answers may_leave old (Writes place bytes limit answer) new = Wrote may_leave old place bytes limit answer new
Answers may_leave old (Removes place answer) new = Removed may_leave old place answer new

-- Calls one after another, each over the contents that the one before left.
abbrev pub AnswersAll : Tearing → Contents → List Call → Contents → Type 0
AnswersAll may_leave old [] new = new ≡ old
AnswersAll may_leave old (call ∷ calls) new =
    IsFolder old.files
    × ((mid : Contents) × Answers may_leave old call mid × AnswersAll may_leave mid calls new)
