-- A listing, and removals, by the calls that they make and their answers.
use Rattle.std.specs.Prelude.{◌≡◌, ◌⊎◌, List, [], ◌∷◌, Result, Ok, Err}
use Rattle.std.specs.Global.{Global}
use Rattle.std.specs.declared.vec.Vec.{Vec}
use Rattle.gb_folder.specs.Calls.{Call, Lists, Removes}
use Rattle.gb_folder.specs.Calls.{Device}
use Rattle.gb_folder.specs.Device.{IsCalled}
use Rattle.gb_folder.specs.Each.{Each, Ended}
use Rattle.gb_folder.specs.Files.{Place}
use Rattle.gb_folder.specs.Semantics.{Answer}
use Rattle.gb_folder.specs.declared.folder.FolderFault.{FolderFault}
use Rattle.gb_folder.specs.declared.folder.FolderFault.TheVariants as folders
use Rattle.gb_report.specs.declared.fault.Fault.{Fault}
use Rattle.gb_report.specs.declared.fault.Fault.TheVariants as faults
use Rattle.gb_folder.specs.Faults.{reported_at}

-- ---- A listing

-- The result of a listing, by its answer: the places, or the fault at the root. Memory may run out for the
-- name of the root in the fault.
abbrev pub IsListed : Place → Result (List Place) FolderFault → Result (Vec Place Global) Fault → Type 0
IsListed root (Ok found) (Ok places) = places.items ≡ found
IsListed root (Err fault) (Err reported) = (reported ≡ faults.OutOfMemory)
    ⊎ (reported ≡ reported_at root fault)
IsListed root (Ok found) (Err reported) = ⊥
IsListed root (Err fault) (Ok places) = ⊥

-- one call listed the root, and had this result
abbrev pub WasListed : {F : Type 0} → Device F → Place → F → Result (Vec Place Global) Fault → F
    → Type 0
WasListed device root old result new =
    (answer : Result (List Place) FolderFault) × IsCalled device old (Lists root answer) new
    × IsListed root answer result

-- ---- Removals

-- the fault of a removal, unless there was no file to remove
abbrev pub unless_absent : Place → FolderFault → Ended Fault
unless_absent place folders.Missing = Ok tt
unless_absent place folders.Blocked = Ok tt
unless_absent place folders.OutOfMemory = Err faults.OutOfMemory
unless_absent place folders.Device = Err (faults.Device place)
unless_absent place folders.TooLarge = Err (faults.TooLarge place)
unless_absent place folders.BadFileName = Err (faults.BadFileName place)

-- how a removal ends, by the answer to its call
abbrev pub removal_ending : Place → Answer → Ended Fault
removal_ending place (Ok done) = Ok tt
removal_ending place (Err fault) = unless_absent place fault

-- One removal was tried: memory ran out before its call, or the call was answered.
abbrev pub WasRemoved : {F : Type 0} → Device F → Place → F → Ended Fault → F → Type 0
WasRemoved device place old result new =
    ((result ≡ Err faults.OutOfMemory) × (new ≡ old))
    ⊎ ((answer : Answer) × IsCalled device old (Removes place answer) new
    × (result ≡ removal_ending place answer))

-- one removal, by its calls; it returns nothing
abbrev pub Removal : Place → List Call → List (Unit {0}) → Ended Fault → Type 0
Removal place calls made result =
    (made ≡ [])
    × (((calls ≡ []) × (result ≡ Err faults.OutOfMemory))
    ⊎ ((answer : Answer) × (calls ≡ Removes place answer ∷ [])
    × (result ≡ removal_ending place answer)))

-- the files at these places were removed by these calls, one after another, up to the first that failed
abbrev pub Removals : List Place → List Call → Ended Fault → Type 0
Removals places calls result = Each Removal places calls [] result
