-- The calls that events make, one after another.
use Rattle.std.specs.Prelude.{◌≡◌, ◌++◌, List, [], ◌∷◌, length, Result, Ok, Err}
use Rattle.std.proofs.Common.{refl, subst, arith, inl, inr}
use Rattle.gb_build.specs.InvocationAsked.{InvocationRequests}
use Rattle.gb_semantics.specs.Headline.{answer_of}
use Rattle.gb_semantics.specs.declared.events.Answer.{Answer}
use Rattle.gb_semantics.specs.declared.events.Event.{Event}
use Rattle.gb_semantics.specs.declared.events.Event.TheVariants as events
use Rattle.gb_semantics.specs.declared.events.Invocation.{Invocation}
use Rattle.gb_registry.specs.Tables.{Tables}
use Rattle.gb_report.specs.declared.fault.Fault.{Fault}
use Rattle.gb_report.specs.declared.report.Report.{Report}
use Rattle.gb_build.specs.EventAsked.{EventRequests, EventsRequest, RequestsOnce}
use Rattle.gb_folder.specs.Calls.{Call, Device, Permit, Removes, Requests, Writes, no_change, none, takes_at}
use Rattle.gb_folder.specs.Device.{Leads}
use Rattle.gb_folder.specs.Files.{is_own}
use Rattle.gb_folder.specs.Limits.{max_file}
use Rattle.gb_folder.specs.Semantics.{Answer as Answered}
use Rattle.gb_folder.proofs.Leading.{calls_in, leads_on, leads_once}
use Rattle.gb_semantics.specs.declared.events.Answer.TheVariants as answers
use Rattle.gb_build.proofs.InvocationAsked.{any_change, calls_keep, invocation_calls}

module _ {F M N Z S A : Type 0} (device : Device F) (tables : Tables M N Z S A) where
  pub requests_more_events : (all : List Event) (reported : List Answer) (event : Event) (answer : Answer) (old mid new : F) → length all ≡ length reported
      → EventsRequest device tables all reported old mid → EventRequests device tables event answer mid new
      → EventsRequest device tables (all ++ event ∷ []) (reported ++ answer ∷ []) old new
  requests_more_events [] [] event answer old mid new same requests more = (new, subst (λ (f : F). EventRequests device tables event answer f new) requests more, refl)
  requests_more_events [] (a ∷ reported) event answer old mid new same requests more = absurd (cc)
  requests_more_events (e ∷ all) [] event answer old mid new same requests more = absurd (cc)
  requests_more_events (e ∷ all) (a ∷ reported) event answer old mid new same requests more =
      (requests.0, requests.1, requests_more_events all reported event answer requests.0 mid new (omega (arith, same)) requests.2 more)

  pub invocation_requests : (invocation : Invocation) (result : Result Report Fault) (old new : F) → InvocationRequests device tables invocation result old new
      → EventRequests device tables (events.Invoke invocation) (answer_of result) old new
  invocation_requests invocation (Ok report) old new requests = requests
  invocation_requests invocation (Err fault) old new requests = requests

-- ---- The list of all calls

module _ {F M N Z S A : Type 0} (device : Device F) (tables : Tables M N Z S A) where
  once_calls : (call : Answered → Call) (old new : F) → RequestsOnce device call old new → (calls : List Call) × Leads device old calls new
  once_calls call old new (inl same) = ([], same)
  once_calls call old new (inr made) = (call made.0 ∷ [], leads_once device old new (call made.0) made.1)

  requests_calls : (permit : Permit) (old new : F) → Requests device permit old new → (calls : List Call) × Leads device old calls new
  requests_calls permit old new requests = let found = calls_in device permit old (requests.calls none) in (found.0, found.1)

  event_calls : (event : Event) (answer : Answer) (old new : F) → EventRequests device tables event answer old new → (calls : List Call) × Leads device old calls new
  event_calls (events.Put place bytes) answer old new once = once_calls (Writes place bytes max_file) old new once
  event_calls (events.Remove place) answer old new once = once_calls (Removes place) old new once
  event_calls events.Lost answer old new requests = requests_calls (takes_at is_own) old new requests
  event_calls (events.Invoke invocation) (answers.Built report) old new requests = invocation_calls device tables invocation (Ok report) old new requests
  event_calls (events.Invoke invocation) answers.Edited old new requests = requests_calls no_change old new requests
  event_calls (events.Invoke invocation) (answers.Refused fault) old new requests = requests_calls no_change old new requests
  event_calls (events.Invoke invocation) (answers.NotBuilt fault) old new requests = requests_calls no_change old new requests

  pub events_calls : (all : List Event) (reported : List Answer) (old new : F) → EventsRequest device tables all reported old new → (calls : List Call) × Leads device old calls new
  events_calls (event ∷ rest) (answer ∷ others) old new made =
      let first = event_calls event answer old made.0 made.1 in
      let later = events_calls rest others made.0 new made.2 in
      (first.0 ++ later.0, leads_on device old made.0 new first.0 later.0 first.1 later.1)
  events_calls [] [] old new same = ([], same)
  events_calls [] (answer ∷ others) old new same = ([], same)
  events_calls (event ∷ rest) [] old new same = ([], same)

  -- ---- What they keep

  pub event_keeps : (event : Event) (answer : Answer) (old new : F) → EventRequests device tables event answer old new → Requests device any_change old new
  event_keeps event answer old new made = calls_keep device old new (event_calls event answer old new made)

  pub events_keep : (all : List Event) (reported : List Answer) (old new : F) → EventsRequest device tables all reported old new → Requests device any_change old new
  events_keep all reported old new made = calls_keep device old new (events_calls all reported old new made)
