-- The calls that delete and store a task's record.
use Rattle.std.specs.Prelude.{◌≡◌, ◌⊎◌, Bool, true, false, not, ◌||◌, List, [], ◌∷◌, Some, Ok, Err, IsTrue}
use Rattle.gb_core.specs.Place.{is_place}
use Rattle.gb_folder.specs.Calls.{Call, Removes, Writes}
use Rattle.gb_folder.specs.Each.{Ended}
use Rattle.gb_folder.specs.Semantics.{Answer}
use Rattle.gb_history.specs.Places.{record_place}
use Rattle.gb_history.specs.Record.{Record}
use Rattle.gb_history.specs.Text.{record_text}
use Rattle.gb_semantics.specs.Events.{max_record}
use Rattle.gb_plan.specs.Task.{Path}
use Rattle.gb_records.specs.Faults.{removed_by, unwritten_for}
use Rattle.gb_records.specs.Holding.{is_too_long}
use Rattle.gb_records.specs.Said.{IsText}
use Rattle.gb_records.specs.declared.fault.Unwritten.{Unwritten}
use Rattle.gb_records.specs.declared.fault.Unwritten.TheVariants as unwritten

-- No call was made: memory ran out, or this hinders it.
abbrev pub WasHindered : Bool → List Call → Ended Unwritten → Type 0
WasHindered hindered calls result =
    (calls ≡ [])
    × ((result ≡ Err unwritten.OutOfMemory) ⊎ ((result ≡ Err unwritten.NotWritten) × IsTrue hindered))

-- no file can be at the place of the record
abbrev pub has_no_place : Path → Bool
has_no_place path = not (is_place (record_place path))

-- how a deletion ends, by the answer to its call
abbrev pub deletion_ending : Answer → Ended Unwritten
deletion_ending (Ok done) = Ok tt
deletion_ending (Err fault) = removed_by fault

-- The record of a task was deleted by one call. If none was read, there is no call.
abbrev pub Deletion : Path → Bool → List Call → Ended Unwritten → Type 0
Deletion path false calls result = (calls ≡ []) × (result ≡ Ok tt)
Deletion path true calls result =
    WasHindered (has_no_place path) calls result
    ⊎ ((answer : Answer) × (calls ≡ Removes (record_place path) answer ∷ [])
    × (result ≡ deletion_ending answer))

-- how storing ends, by the answer to its call
abbrev pub storing_ending : Answer → Ended Unwritten
storing_ending (Ok done) = Ok tt
storing_ending (Err fault) = Err (unwritten_for fault)

-- The record of a task was stored by one call, with its very text, which is that of no other record.
abbrev pub Storing : Path → Record → List Call → Ended Unwritten → Type 0
Storing path run calls result =
    WasHindered (has_no_place path || is_too_long (Some (record_text path run))) calls result
    ⊎ ((answer : Answer) × (calls ≡ Writes (record_place path) (record_text path run) max_record answer ∷ [])
    × (result ≡ storing_ending answer) × IsText path run (record_text path run))
