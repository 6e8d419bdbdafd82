-- The changes that a sequence of calls may request.
use Rattle.std.specs.Prelude.{◌≡◌, ◌≤◌, Bool, Option, Some, None, IsTrue, ⊤}
use Rattle.gb_folder.specs.Files.{Place, Bytes, Contents, SameTearing}
use Rattle.gb_folder.specs.Device.{IsCalled}
pub use Rattle.gb_folder.specs.Call.{Call, Device, Lists, Reads, ReadsPart, Writes, Removes}
pub use Rattle.gb_folder.specs.Call.{answered, fault_of}

-- Which change may be requested at a place: to write these bytes, or to remove the file there.
abbrev pub Permit : Type 1
Permit = Place → Option Bytes → Type 0

-- the call requests no other change; listing and reading change nothing
abbrev pub IsPermitted : Permit → Call → Type 0
IsPermitted permit (Lists root answer) = ⊤
IsPermitted permit (Reads place limit answer) = ⊤
IsPermitted permit (ReadsPart place at len answer) = ⊤
IsPermitted permit (Writes place bytes limit answer) = permit place (Some bytes)
IsPermitted permit (Removes place answer) = permit place None

-- such calls, one after another, lead from the first state of the folder to the second
pub data IsReachedBy {F : Type 0} (device : Device F) (permit : Permit) (old : F) : F → Type 0 where
  none : IsReachedBy device permit old old
  then : {mid : F} (call : Call) (new : F) → IsReachedBy device permit old mid → IsPermitted permit call
      → IsCalled device mid call new → IsReachedBy device permit old new

-- The requests to a folder between two of its states: if such calls led to the first state, such calls lead
-- to the second. The device's count of failures never falls. What a stopped call may leave stays the same. If
-- the contents are known at the end, they were known at the beginning.
pub record Requests {F : Type 0} (device : Device F) (permit : Permit) (old new : F) : Type 0 where
  pub count : device.failures old ≤ device.failures new
  pub tearing : SameTearing (device.may_leave old) (device.may_leave new)
  pub back : device.faithful new → device.faithful old
  pub calls : {first : F} → IsReachedBy device permit first old → IsReachedBy device permit first new

-- no change is requested
unfoldable pub no_change : Permit
no_change place next = ⊥

-- these bytes may be written at this place
unfoldable pub put_at : Place → Bytes → Permit
put_at at bytes place next = (place ≡ at) × (next ≡ Some bytes)

-- the file at this place may be removed
unfoldable pub taken_at : Place → Permit
taken_at at place next = (place ≡ at) × (next ≡ None)

-- files may be removed where the test holds
unfoldable pub takes_at : (Place → Bool) → Permit
takes_at test place next = IsTrue (test place) × (next ≡ None)

-- files may be written and removed where the test holds
unfoldable pub changes_at : (Place → Bool) → Permit
changes_at test place next = IsTrue (test place)

-- Where the contents are known, those before and after are in this relation.
abbrev pub WhereKnown : {F : Type 0} → Device F → F → F → (Contents → Contents → Type 0) → Type 0
WhereKnown device old new Relates = device.faithful new → Relates (device.contents old) (device.contents new)

-- No change is requested, and known contents stay the same.
pub record OnlyReads {F : Type 0} (device : Device F) (old new : F) : Type 0 where
  pub requests : Requests device no_change old new
  pub same : device.faithful new → device.contents new ≡ device.contents old
