-- The calls that events make, over any folder.
use Rattle.std.specs.Prelude.{◌≡◌, ◌⊎◌, List, ◌∷◌, Ok}
use Rattle.gb_folder.specs.Calls.{Requests, Call, Removes, Writes, no_change, takes_at, Device}
use Rattle.gb_folder.specs.Device.{IsCalled}
use Rattle.gb_folder.specs.Files.{is_own}
use Rattle.gb_folder.specs.Limits.{max_file}
use Rattle.gb_folder.specs.Semantics.{Answer}
use Rattle.gb_semantics.specs.declared.events.Answer.{Answer as Reply}
use Rattle.gb_semantics.specs.declared.events.Answer.TheVariants as answers
use Rattle.gb_semantics.specs.declared.events.Event.{Event}
use Rattle.gb_semantics.specs.declared.events.Event.TheVariants as events
use Rattle.gb_registry.specs.Tables.{Tables}
use Rattle.gb_build.specs.InvocationAsked.{InvocationRequests}

-- no call, or one call and no other
abbrev pub RequestsOnce : {F : Type 0} → Device F → (Answer → Call) → F → F → Type 0
RequestsOnce device call old new = (new ≡ old) ⊎ ((answer : Answer) × IsCalled device old (call answer) new)

-- An edit makes at most one call, at its own place; a loss removes only in `.gb`; and an invocation makes the
-- calls that its answer permits.
abbrev pub EventRequests : {F M N Z S A : Type 0} → Device F
    → Tables M N Z S A → Event → Reply → F → F → Type 0
EventRequests device tables (events.Put place bytes) answer old new =
    RequestsOnce device (Writes place bytes max_file) old new
EventRequests device tables (events.Remove place) answer old new =
    RequestsOnce device (Removes place) old new
EventRequests device tables events.Lost answer old new =
    Requests device (takes_at is_own) old new
EventRequests device tables (events.Invoke invocation) (answers.Built report)
    old new =
    InvocationRequests device tables invocation (Ok report) old new
EventRequests device tables (events.Invoke invocation) answer old new =
    Requests device no_change old new

-- one event after another
abbrev pub EventsRequest : {F M N Z S A : Type 0} → Device F
    → Tables M N Z S A → List Event → List Reply → F → F → Type 0
EventsRequest device tables (event ∷ rest) (answer ∷ others) old new =
    (mid : _) × EventRequests device tables event answer old mid
    × EventsRequest device tables rest others mid new
EventsRequest device tables all reported old new = new ≡ old
