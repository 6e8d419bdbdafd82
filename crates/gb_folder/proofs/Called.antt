-- Calls that were answered, as a listing or a removal.
use Rattle.std.specs.Prelude.{◌≡◌, ◌≢◌, ◌⊎◌, [], ◌∷◌, Ok, Err, Result, IfErr, OnOk}
use Rattle.std.proofs.Common.{refl, sym, ap, subst, inl, inr}
use Rattle.std.specs.Global.{Global}
use Rattle.std.specs.declared.vec.Vec.{Vec}
use Rattle.gb_folder.specs.Calls.{Removes, answered}
use Rattle.gb_folder.specs.Calls.{Device}
use Rattle.gb_folder.specs.Each.{Ended}
use Rattle.gb_folder.specs.Files.{Place}
use Rattle.gb_folder.specs.declared.folder.FolderFault.{FolderFault}
use Rattle.gb_folder.specs.declared.folder.FolderFault.TheVariants as folders
use Rattle.gb_folder.proofs.EachOf.{OneLed}
use Rattle.gb_folder.proofs.Leading.{leads_once}
use Rattle.gb_report.specs.declared.fault.Fault.{Fault}
use Rattle.gb_report.specs.declared.fault.Fault.TheVariants as faults
use Rattle.gb_folder.specs.Faults.{reported_at}
use Rattle.gb_folder.specs.Removals.{IsListed, Removal, WasRemoved, unless_absent}

-- ---- a listing

pub listed_well : (root : Place) (row : Result (Vec Place Global) FolderFault) (places : Vec Place Global) → row ≡ Ok places → IsListed root (answered row) (Ok places)
listed_well root (Ok found) places is =
    let same : places ≡ found = let e = is in (cc) in
    ap (λ (v : Vec Place Global). v.items) same
listed_well root (Err fault) places is = absurd (let e = is in (cc))

pub listed_badly : (root : Place) (row : Result (Vec Place Global) FolderFault) (fault : FolderFault) (reported : Fault) → row ≡ Err fault → (reported ≡ faults.OutOfMemory) ⊎ (reported ≡ reported_at root fault) → IsListed root (answered row) (Err reported)
listed_badly root (Ok found) fault reported is why = absurd (let e = is in (cc))
listed_badly root (Err other) fault reported is why = subst (λ (f : FolderFault). (reported ≡ faults.OutOfMemory) ⊎ (reported ≡ reported_at root f)) (let e = sym is in (cc)) why

-- ---- a removal

-- a removal that ends well found no file, or none that can be there
absent_ok : (place : Place) (fault : FolderFault) → OnOk (unless_absent place fault) ((fault ≡ folders.Missing) ⊎ (fault ≡ folders.Blocked))
absent_ok place folders.OutOfMemory = tt
absent_ok place folders.Device = tt
absent_ok place folders.Missing = inl refl
absent_ok place folders.Blocked = inr refl
absent_ok place folders.TooLarge = tt
absent_ok place folders.BadFileName = tt

-- the fault of any other is reported at its place
absent_err : (place : Place) (fault : FolderFault) → IfErr (unless_absent place fault) (λ reported. (fault ≢ folders.Missing) × (fault ≢ folders.Blocked) × (reported ≡ reported_at place fault))
absent_err place folders.OutOfMemory = (λ e. cc, λ e. cc, refl)
absent_err place folders.Device = (λ e. cc, λ e. cc, refl)
absent_err place folders.Missing = tt
absent_err place folders.Blocked = tt
absent_err place folders.TooLarge = (λ e. cc, λ e. cc, refl)
absent_err place folders.BadFileName = (λ e. cc, λ e. cc, refl)

-- the same of a result that is one
pub at_ok : (place : Place) (fault : FolderFault) (result : Ended Fault) → result ≡ unless_absent place fault → OnOk result ((fault ≡ folders.Missing) ⊎ (fault ≡ folders.Blocked))
at_ok place fault result is = subst (λ (r : Ended Fault). OnOk r ((fault ≡ folders.Missing) ⊎ (fault ≡ folders.Blocked))) (sym is) (absent_ok place fault)

pub at_place : (place : Place) (fault : FolderFault) (result : Ended Fault) → result ≡ unless_absent place fault
    → IfErr result (λ reported. (fault ≢ folders.Missing) × (fault ≢ folders.Blocked) × (reported ≡ reported_at place fault))
at_place place fault result is =
    subst (λ (r : Ended Fault). IfErr r (λ reported. (fault ≢ folders.Missing) × (fault ≢ folders.Blocked) × (reported ≡ reported_at place fault))) (sym is) (absent_err place fault)

-- one removal that was tried is one by its calls
pub removal_led : {F : Type 0} (device : Device F) (place : Place) (old new : F) (result : Ended Fault) → WasRemoved device place old result new → OneLed Removal device place old [] result new
removal_led device place old new result (inl memory) = ([], memory.1, (refl, inl (refl, memory.0)))
removal_led device place old new result (inr called) =
    (Removes place called.0 ∷ [], leads_once device old new (Removes place called.0) called.1, (refl, inr (called.0, refl, called.2)))
