-- The result of an edit from outside and what it leaves, and the loss of all that the tool keeps for itself.
use Rattle.std.specs.Prelude.{ℕ, ◌≡◌, ◌≤◌, ◌<◌, ◌⊎◌, false, not, Option, None, Some, IsSome}
use Rattle.std.specs.Prelude.{IsTrue, codes, length}
use Rattle.gb_folder.specs.Files.{Place, Bytes, Contents, HasRisen, Tearing, file_at, files_where, is_blocked}
use Rattle.gb_folder.specs.Files.{IsTorn, is_special_under, is_own, places_under, with_file, without}
use Rattle.gb_folder.specs.Limits.{max_file}
use Rattle.gb_report.specs.declared.fault.Fault.{Fault}
use Rattle.gb_report.specs.declared.fault.Fault.TheVariants as faults
use Rattle.gb_folder.specs.Changes.{IsCutShort}
use Rattle.gb_folder.specs.Faults.{IsOfMachine}
use Rattle.gb_semantics.specs.declared.events.Answer.{Answer}
use Rattle.gb_semantics.specs.declared.events.Answer.TheVariants as answers

-- what a folder shows: what it holds, and how often its device has failed
pub record Shown : Type 0 where
  pub contents : Contents
  pub failures : ℕ

-- The device failed in an edit outside of the tool's own places: at the edit's place is what the device may
-- leave.
pub record IsTornEdit (may_leave : Tearing) (place : Place) (next : Option Bytes) (old : Shown)
    (fault : Fault) (new : Shown) : Type 0 where
  pub outside : is_own place ≡ false
  pub rose : HasRisen old.failures new.failures
  pub reported : fault ≡ faults.Device place
  pub torn : IsTorn may_leave place next old.contents new.contents

-- an edit was stopped: memory ran out and nothing changed, or the device failed in it
abbrev pub IsStopped : Tearing → Place → Option Bytes → Shown → Fault → Shown → Type 0
IsStopped may_leave place next old fault new =
    ((new.contents ≡ old.contents) × (fault ≡ faults.OutOfMemory))
    ⊎ IsTornEdit may_leave place next old fault new

-- nothing changed, as the place is the tool's own or a file is in its way
abbrev pub IsNoPlaceToEdit : Place → Shown → Fault → Shown → Type 0
IsNoPlaceToEdit place old fault new =
    (new.contents ≡ old.contents)
    × ((IsTrue (is_own place) × (fault ≡ faults.OwnState place))
    ⊎ ((is_own place ≡ false) × IsTrue (is_blocked old.contents.files place)
    × (fault ≡ faults.Blocked place)))

-- A file is written where the tool keeps nothing of its own and no other file is in the way; it is not too
-- large.
abbrev pub PutStep : Tearing → Place → Bytes → Shown → Answer → Shown → Type 0
PutStep may_leave place bytes old answers.Edited new =
    (is_own place ≡ false) × (is_blocked old.contents.files place ≡ false) × (length bytes ≤ max_file)
    × (new.contents ≡ record old.contents { files = with_file old.contents.files place bytes })
PutStep may_leave place bytes old (answers.Refused fault) new =
    IsStopped may_leave place (Some bytes) old fault new ⊎ IsNoPlaceToEdit place old fault new
    ⊎ ((new.contents ≡ old.contents) × (is_own place ≡ false) × (max_file < length bytes)
    × (fault ≡ faults.TooLarge place))
PutStep may_leave place bytes old (answers.Built report) new = ⊥
PutStep may_leave place bytes old (answers.NotBuilt fault) new = ⊥

-- An existing file is removed.
abbrev pub RemoveStep : Tearing → Place → Shown → Answer → Shown → Type 0
RemoveStep may_leave place old answers.Edited new =
    (is_own place ≡ false) × IsSome (file_at old.contents.files place)
    × (new.contents ≡ record old.contents { files = without old.contents.files place })
RemoveStep may_leave place old (answers.Refused fault) new =
    IsStopped may_leave place None old fault new ⊎ IsNoPlaceToEdit place old fault new
    ⊎ ((new.contents ≡ old.contents) × (is_own place ≡ false) × (is_blocked old.contents.files place ≡ false)
    × (file_at old.contents.files place ≡ None) × (fault ≡ faults.Missing place))
RemoveStep may_leave place old (answers.Built report) new = ⊥
RemoveStep may_leave place old (answers.NotBuilt fault) new = ⊥

-- ---- Losses

abbrev pub own_place : Place
own_place = codes ".gb"

-- why the files of `.gb` cannot be listed: memory ran out, the device failed, or a special file is there
abbrev pub IsNoListing : Shown → Fault → ℕ → Type 0
IsNoListing old fault after =
    (fault ≡ faults.OutOfMemory) ⊎ ((fault ≡ faults.Device own_place) × HasRisen old.failures after)
    ⊎ (IsTrue (is_special_under old.contents own_place) × (fault ≡ faults.BadFileName own_place))

-- All that the tool keeps for itself is lost. A refused loss either changed nothing, as it got no list of the
-- files, or removed some first ones of them, and was stopped at the next.
abbrev pub LossStep : Tearing → Shown → Answer → Shown → Type 0
LossStep may_leave old answers.Edited new =
    new.contents
    ≡ record old.contents { files = files_where (λ place. not (is_own place)) old.contents.files }
LossStep may_leave old (answers.Refused fault) new =
    ((new.contents ≡ old.contents) × IsNoListing old fault new.failures)
    ⊎ (IsOfMachine old.failures new.failures fault
    × IsCutShort may_leave (places_under old.contents.files own_place) old.contents fault new.contents)
LossStep may_leave old (answers.Built report) new = ⊥
LossStep may_leave old (answers.NotBuilt fault) new = ⊥
