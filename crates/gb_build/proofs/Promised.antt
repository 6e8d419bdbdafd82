-- What an invocation does, from the parts of it.
use Rattle.std.proofs.Common.{◌≡◌, ◌≤◌, ◌∷◌, [], true, Result, Err, IfErr, IsTrue, OnErr, subst, sym}
use Rattle.gb_folder.specs.Calls.{Requests, no_change, Device}
use Rattle.gb_folder.specs.Files.{Place, Tearing}
use Rattle.gb_semantics.specs.Edits.{Shown}
use Rattle.gb_semantics.specs.Events.{IsNotBuilt, is_read_first}
use Rattle.gb_semantics.specs.Headline.{EventKeeps, HasFailed, answer_of, times_attributed}
use Rattle.gb_semantics.specs.Kinds.{Kinds}
use Rattle.gb_semantics.specs.declared.events.Event.TheVariants as events
use Rattle.gb_semantics.specs.declared.events.Invocation.{Invocation}
use Rattle.gb_semantics.proofs.Lemmas.Plain.{headline}
use Rattle.gb_records.specs.Assumed.{IsAssumed}
use Rattle.gb_registry.specs.Tables.{Tables}
use Rattle.gb_report.specs.declared.fault.Fault.{Fault}
use Rattle.gb_report.specs.declared.fault.Fault.TheVariants as faults
use Rattle.gb_report.specs.declared.report.Report.{Report}
use Rattle.gb_build.specs.Invoking.{IsInvocation, KeepsPromise}
use Rattle.gb_build.specs.Leading.{IsTransition}
use Rattle.gb_build.specs.Registering.{registers_in, setting_of}
use Rattle.gb_build.proofs.InvocationAsked.{invocation_calls, refusal_requests}
use Rattle.gb_build.proofs.Keeping.{of_fault, refusal_keeps}
use Rattle.gb_build.proofs.Leading.{led_holds}
use Rattle.gb_build.proofs.Passing.{refused_leads}

-- ---- Where contents are known

module _ {M F Z S A : Type 0} (tables : Tables M F Z S A) (may_leave : Tearing) (invocation : Invocation) (old : Shown) (result : Result Report Fault) (new : Shown) (count : old.failures ≤ new.failures) where
  abbrev Continues : Type 0
  Continues = (kinds : Kinds) → IsAssumed tables.shapes tables.kinds kinds may_leave → IsTransition (setting_of tables kinds may_leave) old (events.Invoke invocation) (answer_of result) new

  -- what continues a run is a run, and so the headline holds of it
  pub promised : IfErr result (λ fault. IsNotBuilt (registers_in tables) old invocation fault new.failures) → OnErr result (new.contents ≡ old.contents)
      → (invocation.options.dry_run ≡ true → new.contents ≡ old.contents) → EventKeeps (registers_in tables) (events.Invoke invocation) (answer_of result) old.contents new.contents
      → Continues → KeepsPromise tables may_leave invocation old result new
  promised not_built refused dry keeps continues = record {
    not_built = not_built;
    refused = refused;
    dry = dry;
    keeps = keeps;
    continues = continues;
    holds = λ kinds assumed. led_holds (setting_of tables kinds may_leave) old new invocation result count (continues kinds assumed);
    promise = λ kinds assumed. headline (setting_of tables kinds may_leave) old new (events.Invoke invocation ∷ []) (answer_of result ∷ [])
        (led_holds (setting_of tables kinds may_leave) old new invocation result count (continues kinds assumed));
  }

  -- a refusal, with this cause
  pub refusal_promised : (fault : Fault) → result ≡ Err fault → new.contents ≡ old.contents → IsNotBuilt (registers_in tables) old invocation fault new.failures
      → KeepsPromise tables may_leave invocation old result new
  refusal_promised fault is same why =
      promised (of_fault (λ (f : Fault). IsNotBuilt (registers_in tables) old invocation f new.failures) result fault is why)
      (subst (λ (r : Result Report Fault). OnErr r (new.contents ≡ old.contents)) (sym is) same)
      (λ dry. same)
      (refusal_keeps (registers_in tables) invocation result fault is old.contents new.contents same)
      (λ kinds assumed. refused_leads (setting_of tables kinds may_leave) old new invocation fault why same result is)

-- ---- Over any folder

module _ {F M N Z S A : Type 0} (device : Device F) (tables : Tables M N Z S A) (invocation : Invocation) (result : Result Report Fault) (old new : F) where
  -- a refusal
  pub refusal_does : (fault : Fault) → result ≡ Err fault → Requests device no_change old new → HasFailed (times_attributed (answer_of result)) (device.failures old) (device.failures new)
      → ((place : Place) → fault ≡ faults.Device place → IsTrue (is_read_first invocation.options place)) → IsInvocation device tables invocation result old new
  refusal_does fault is requests blamed places =
      let asked = refusal_requests device tables invocation result fault old new is requests in
      record {
        requests = asked;
        calls = invocation_calls device tables invocation result old new asked;
        places = of_fault (λ (f : Fault). (place : Place) → f ≡ faults.Device place → IsTrue (is_read_first invocation.options place)) result fault is places;
        blame = blamed;
      }
