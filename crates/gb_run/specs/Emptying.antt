-- Output places, listed and emptied.
use Rattle.std.specs.Prelude.{ℕ, ◌≡◌, ◌⊎◌, ◌++◌, Bool, List, [], ◌∷◌, map, Some, Result, Ok, Err}
use Rattle.std.specs.List.{flat_map, list_any}
use Rattle.gb_core.specs.Lists.{first_of}
use Rattle.gb_core.specs.Place.{is_under}
use Rattle.gb_folder.specs.Calls.{Call, Lists}
use Rattle.gb_folder.specs.Each.{Each, Ended}
use Rattle.gb_folder.specs.Files.{Place, Contents, Files, Tearing, places_under}
use Rattle.gb_folder.specs.declared.folder.FolderFault.{FolderFault}
use Rattle.gb_report.specs.declared.fault.Fault.{Fault}
use Rattle.gb_report.specs.declared.fault.Fault.TheVariants as faults
use Rattle.gb_tree.specs.Tree.{special_roots}
use Rattle.gb_plan.specs.declared.task.Output.{Output}
use Rattle.gb_plan.specs.declared.task.TaskDeclaration.{TaskDeclaration as Task}
use Rattle.gb_folder.specs.Changes.{IsCutShort}
use Rattle.gb_folder.specs.Faults.{IsOfMachine, reported_at}
use Rattle.gb_folder.specs.Removals.{Removals}
use Rattle.gb_semantics.specs.Tree.{listing_faults, reported_of_tree}
use Rattle.gb_run.specs.Doing.{OrEnds}

-- the place is at or under one of these outputs
abbrev pub is_at_output : List Output → Place → Bool
is_at_output outputs place = list_any (λ output. is_under place output.place) outputs

-- the places of the files at these outputs, output by output
abbrev pub places_at : List Output → Files → List Place
places_at outputs files = flat_map (λ output. places_under files output.place) outputs

-- the faults of listing them: entries there that no place can name
abbrev pub special_faults : List Output → Contents → List Fault
special_faults outputs folder = map reported_of_tree
    (special_roots folder (map (λ output. output.place) outputs))

-- The outputs of a task are not emptied. Either an unsupported entry is there and nothing has changed; or the
-- machine failed, before the first removal or at one, and some first files are gone.
abbrev pub CannotEmpty : Task → Tearing → ℕ → Contents → Fault → ℕ → Contents → Type 0
CannotEmpty task may_leave before old fault after new =
    ((first_of (listing_faults task old) ≡ Some fault) × (new ≡ old))
    ⊎ (IsOfMachine before after fault
    × ((new ≡ old) ⊎ IsCutShort may_leave (places_at task.outputs old.files) old fault new))

-- ---- The calls

-- What a listing found by its answer, and how it ends: memory may run out for the places, or for the name
-- of the root in a fault.
abbrev pub IsFound : Place → Result (List Place) FolderFault → List Place → Ended Fault → Type 0
IsFound root (Ok found) places result =
    ((places ≡ found) × (result ≡ Ok tt)) ⊎ ((places ≡ []) × (result ≡ Err faults.OutOfMemory))
IsFound root (Err fault) places result =
    (places ≡ [])
    × ((result ≡ Err faults.OutOfMemory) ⊎ (result ≡ Err (reported_at root fault)))

-- an output was listed by one call
abbrev pub Listing : Output → List Call → List Place → Ended Fault → Type 0
Listing output calls places result =
    (answer : Result (List Place) FolderFault) × (calls ≡ Lists output.place answer ∷ [])
    × IsFound output.place answer places result

-- The outputs were emptied by these calls: all were listed, and then all that was found was removed.
abbrev pub Emptying : List Output → List Call → Ended Fault → Type 0
Emptying outputs calls result =
    (listed : List Call) × (removed : List Call) × (places : List Place) × (mid : Ended Fault)
    × (calls ≡ listed ++ removed) × Each Listing outputs listed places mid
    × OrEnds mid (Removals places removed result) removed result
