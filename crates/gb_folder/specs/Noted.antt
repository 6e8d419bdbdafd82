-- Folders that record the requested changes.
use Rattle.std.specs.Prelude.{◌≡◌, ◌⊎◌, List, [], ◌∷◌, ◌++◌, Some, None}
use Rattle.gb_folder.specs.Call.{Call, Lists, Reads, ReadsPart, Writes, Removes, fault_of}
use Rattle.gb_folder.specs.declared.folder.FolderFault.TheVariants.{OutOfMemory}
use Rattle.gb_folder.specs.declared.noted.Note.{Note}

-- the notes of a call
abbrev pub notes_of : Call → List Note
notes_of (Lists root answer) = []
notes_of (Reads place limit answer) = []
notes_of (ReadsPart place at len answer) = []
notes_of (Writes place bytes limit answer) = record { place = place; next = Some bytes } ∷ []
notes_of (Removes place answer) = record { place = place; next = None } ∷ []

-- The call is recorded and made; or memory ran out for the note, and nothing is recorded or called.
abbrev pub IsNoted : Call → List Note → List Note → Type 0 → Type 0 → Type 0
IsNoted call old new Kept Asked =
    ((new ≡ old ++ notes_of call) × Asked) ⊎ ((fault_of call ≡ Some OutOfMemory) × (new ≡ old) × Kept)
