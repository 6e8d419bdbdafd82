-- Outputs listed and emptied, by their calls.
use Rattle.std.specs.Prelude.{◌≡◌, ◌++◌, List, [], ◌∷◌, Result, Ok, Err}
use Rattle.std.proofs.Common.{refl, sym, ap, subst, inl, inr}
use Rattle.std.proofs.lemmas.List.{append-nil}
use Rattle.std.specs.Global.{Global}
use Rattle.std.specs.declared.vec.Vec.{Vec}
use Rattle.gb_folder.specs.Calls.{Call, Lists}
use Rattle.gb_folder.specs.Calls.{Device}
use Rattle.gb_folder.specs.Device.{Leads}
use Rattle.gb_folder.specs.Each.{Each, Ended}
use Rattle.gb_folder.specs.Files.{Place}
use Rattle.gb_folder.specs.declared.folder.FolderFault.{FolderFault}
use Rattle.gb_folder.proofs.EachOf.{OneLed}
use Rattle.gb_folder.proofs.Leading.{leads_on, leads_once}
use Rattle.gb_plan.specs.declared.task.Output.{Output}
use Rattle.gb_report.specs.declared.fault.Fault.{Fault}
use Rattle.gb_report.specs.declared.fault.Fault.TheVariants as faults
use Rattle.gb_folder.specs.Removals.{IsListed, Removals, WasListed}
use Rattle.gb_run.specs.Emptying.{Emptying, IsFound, Listing}

module _ {F : Type 0} (device : Device F) (output : Output) (old new : F) where
  -- the places of one more output
  pub listing_more : (found : Vec Place Global) → WasListed device output.place old (Ok found) new → OneLed Listing device output old found.items (Ok tt) new
  listing_more found was = (
    Lists output.place was.0 ∷ [],
    leads_once device old new (Lists output.place was.0) was.1,
    (was.0, refl, by was.0 was.2),
  )
    where
      by : (answer : Result (List Place) FolderFault) → IsListed output.place answer (Ok found) → IsFound output.place answer found.items (Ok tt)
      by (Ok places) is = inl (is, refl)
      by (Err fault) is = absurd is

  -- no memory for them
  pub listing_lost : (found : Vec Place Global) → WasListed device output.place old (Ok found) new → OneLed Listing device output old [] (Err faults.OutOfMemory) new
  listing_lost found was = (
    Lists output.place was.0 ∷ [],
    leads_once device old new (Lists output.place was.0) was.1,
    (was.0, refl, by was.0 was.2),
  )
    where
      by : (answer : Result (List Place) FolderFault) → IsListed output.place answer (Ok found) → IsFound output.place answer [] (Err faults.OutOfMemory)
      by (Ok places) is = inr (refl, refl)
      by (Err fault) is = absurd is

  -- a listing that failed
  pub listing_failed : (fault : Fault) → WasListed device output.place old (Err fault) new → OneLed Listing device output old [] (Err fault) new
  listing_failed fault was = (
    Lists output.place was.0 ∷ [],
    leads_once device old new (Lists output.place was.0) was.1,
    (was.0, refl, by was.0 was.2),
  )
    where
      by : (answer : Result (List Place) FolderFault) → IsListed output.place answer (Err fault) → IsFound output.place answer [] (Err fault)
      by (Ok places) is = absurd is
      by (Err refused) (inl memory) = (refl, inl (ap Err memory))
      by (Err refused) (inr at) = (refl, inr (ap Err at))

module _ {F : Type 0} (device : Device F) (outputs : List Output) where
  abbrev pub EmptyingLed : F → Ended Fault → F → Type 0
  EmptyingLed old result new = (calls : List Call) × Leads device old calls new × Emptying outputs calls result

  -- the listing failed
  pub emptying_unlisted : (old new : F) (listed : List Call) (places : List Place) (fault : Fault) → Leads device old listed new → Each Listing outputs listed places (Err fault) → EmptyingLed old (Err fault) new
  emptying_unlisted old new listed places fault led lists = (listed, led, (listed, [], places, Err fault, sym (append-nil listed), lists, (refl, refl)))

  -- all was listed, and then removed
  pub emptying_done : (old mid new : F) (listed : List Call) (places found : List Place) (result : Ended Fault) → Leads device old listed mid → Each Listing outputs listed places (Ok tt) → found ≡ places
      → (removed : List Call) → Leads device mid removed new → Removals found removed result → EmptyingLed old result new
  emptying_done old mid new listed places found result led lists same removed leads removes = (
    listed ++ removed,
    leads_on device old mid new listed removed led leads,
    (listed, removed, places, Ok tt, refl, lists, subst (λ (ps : List Place). Removals ps removed result) same removes),
  )
