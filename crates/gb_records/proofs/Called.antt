-- The call that deletes or stores a record, or none, by what the code goes through.
use Rattle.std.specs.Prelude.{◌≡◌, Bool, true, false, not, ◌||◌, List, [], ◌∷◌, Ok, Err, Some, IsTrue}
use Rattle.std.proofs.Common.{refl, sym, ap, subst, inl, inr}
use Rattle.gb_core.specs.Place.{is_place}
use Rattle.gb_folder.specs.Calls.{Call, Removes, Writes}
use Rattle.gb_folder.specs.Calls.{Device}
use Rattle.gb_folder.specs.Device.{IsCalled, Leads}
use Rattle.gb_folder.specs.Each.{Ended}
use Rattle.gb_folder.specs.Files.{Bytes, Place}
use Rattle.gb_folder.specs.Semantics.{Answer}
use Rattle.gb_folder.proofs.Leading.{leads_once}
use Rattle.gb_history.specs.Places.{record_place}
use Rattle.gb_history.specs.Record.{Record}
use Rattle.gb_history.specs.Text.{record_text}
use Rattle.gb_semantics.specs.Events.{max_record}
use Rattle.gb_plan.specs.Task.{Path}
use Rattle.gb_records.specs.Called.{Deletion, Storing, WasHindered, deletion_ending, has_no_place, storing_ending}
use Rattle.gb_records.specs.Holding.{is_too_long}
use Rattle.gb_records.specs.Said.{IsText}
use Rattle.gb_records.specs.declared.fault.Unwritten.{Unwritten}
use Rattle.gb_records.specs.declared.fault.Unwritten.TheVariants as unwritten

-- no call, by the fault
hindered_by : (hindered : Bool) (fault : Unwritten) → (fault ≡ unwritten.NotWritten → IsTrue hindered) → WasHindered hindered [] (Err fault)
hindered_by hindered unwritten.OutOfMemory why = (refl, inl refl)
hindered_by hindered unwritten.NotWritten why = (refl, inr (refl, why refl))

no_place : (path : Path) → is_place (record_place path) ≡ false → has_no_place path ≡ true
no_place path is = ap not is

either_left : (a b : Bool) → a ≡ true → (a || b) ≡ true
either_left a b is = ap (λ c. c || b) is

either_right : (a b : Bool) → b ≡ true → (a || b) ≡ true
either_right true b is = refl
either_right false b is = is

module _ {F : Type 0} (device : Device F) (path : Path) where
  abbrev pub DeletionLed : Bool → F → Ended Unwritten → F → Type 0
  DeletionLed was_read old result new = (calls : List Call) × Leads device old calls new × Deletion path was_read calls result

  pub deletion_none : (was_read : Bool) (folder : F) → was_read ≡ false → DeletionLed was_read folder (Ok tt) folder
  deletion_none was_read folder is = subst (λ (b : Bool). DeletionLed b folder (Ok tt) folder) (sym is) ([], refl, (refl, refl))

  pub deletion_hindered : (was_read : Bool) (folder : F) (fault : Unwritten) → was_read ≡ true → (fault ≡ unwritten.NotWritten → is_place (record_place path) ≡ false) → DeletionLed was_read folder (Err fault) folder
  deletion_hindered was_read folder fault is why =
      subst (λ (b : Bool). DeletionLed b folder (Err fault) folder) (sym is) ([], refl, inl (hindered_by (has_no_place path) fault (λ e. no_place path (why e))))

  pub deletion_called : (was_read : Bool) (place : Place) (old new : F) (answer : Answer) (result : Ended Unwritten) → was_read ≡ true → place ≡ record_place path → IsCalled device old (Removes place answer) new
      → result ≡ deletion_ending answer → DeletionLed was_read old result new
  deletion_called was_read place old new answer result is at called ends =
      subst (λ (b : Bool). DeletionLed b old result new) (sym is) (
        Removes (record_place path) answer ∷ [],
        leads_once device old new (Removes (record_place path) answer) (subst (λ (p : Place). IsCalled device old (Removes p answer) new) at called),
        inr (answer, refl, ends),
      )

  abbrev pub StoringLed : Record → F → Ended Unwritten → F → Type 0
  StoringLed run old result new = (calls : List Call) × Leads device old calls new × Storing path run calls result

  pub storing_hindered : (run : Record) (folder : F) (fault : Unwritten) → (fault ≡ unwritten.NotWritten → is_place (record_place path) ≡ false) → StoringLed run folder (Err fault) folder
  storing_hindered run folder fault why =
      ([], refl, inl (hindered_by (has_no_place path || is_too_long (Some (record_text path run))) fault (λ e. either_left (has_no_place path) _ (no_place path (why e)))))

  pub storing_too_long : (run : Record) (folder : F) → is_too_long (Some (record_text path run)) ≡ true → StoringLed run folder (Err unwritten.NotWritten) folder
  storing_too_long run folder long =
      ([], refl, inl (hindered_by (has_no_place path || is_too_long (Some (record_text path run))) unwritten.NotWritten (λ e. either_right (has_no_place path) _ long)))

  pub storing_called : (run : Record) (place : Place) (bytes : Bytes) (old new : F) (answer : Answer) (result : Ended Unwritten) → place ≡ record_place path → bytes ≡ record_text path run
      → IsCalled device old (Writes place bytes max_record answer) new → result ≡ storing_ending answer → IsText path run (record_text path run) → StoringLed run old result new
  storing_called run place bytes old new answer result at text called ends said = (
    Writes (record_place path) (record_text path run) max_record answer ∷ [],
    leads_once device old new (Writes (record_place path) (record_text path run) max_record answer)
        (subst (λ (b : Bytes). IsCalled device old (Writes (record_place path) b max_record answer) new) text
        (subst (λ (p : Place). IsCalled device old (Writes p bytes max_record answer) new) at called)),
    inr (answer, refl, ends, said),
  )
