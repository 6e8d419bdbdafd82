-- What a refused invocation leaves is as its definition says, and it attributes no more faults to the device
-- than the device had.
use Rattle.std.specs.Prelude.{ℕ, ◌≡◌, ◌≤◌, ◌||◌, ◌&&◌, Bool, IsTrue, false, not, List, cond, codes, IfErr, Ok, Err, Result, bytes_eq}
use Rattle.std.proofs.Common.{refl, sym, ap, ◌∙◌, subst, inl, inr, arith}
use Rattle.gb_folder.specs.Files.{Place, is_own}
use Rattle.gb_semantics.specs.declared.events.Answer.TheVariants as answers
use Rattle.gb_semantics.specs.declared.events.Event.TheVariants as events
use Rattle.gb_semantics.specs.declared.events.Invocation.{Invocation}
use Rattle.gb_semantics.specs.Edits.{Shown}
use Rattle.gb_semantics.specs.Events.{IsNotBuilt, Setting}
use Rattle.gb_semantics.specs.Headline.{HasFailed, Registering, answer_of, is_of_device, times_attributed}
use Rattle.gb_semantics.specs.TrueRecord.{outside}
use Rattle.gb_graph.specs.Answer.{IsRefusalOf}
use Rattle.gb_plan.specs.Graph.{Registry}
use Rattle.gb_plan.specs.Task.{Text}
use Rattle.gb_report.specs.declared.report.Report.{Report}
use Rattle.gb_plan.proofs.Tests.{not_false, or_right}
use Rattle.gb_report.specs.declared.fault.Fault.{Fault}
use Rattle.gb_report.specs.declared.fault.Fault.TheVariants as faults
use Rattle.gb_tree.specs.Property.{last_segment}
use Rattle.gb_build.specs.Asking.{NoneBlameDevice}
use Rattle.gb_build.specs.Leading.{IsTransition}
use Rattle.gb_build.specs.Refusing.{IsNotBegun, IsUnread}
use Rattle.gb_build.proofs.Leading.{nothing_leads}
use Rattle.gb_build.proofs.RequestAsked.{refusal_blames_none, request_registry, words_blame_none}
use Rattle.gb_build.proofs.Blamed.{risen_once}

-- ---- What is left

-- why a build is not begun is why an invocation is not built
pub not_built : (registers : Registering) (registry : Registry) (old : Shown) (invocation : Invocation) (fault : Fault) (after : ℕ) → registers (outside old.contents).files invocation.properties (Ok registry)
    → IsNotBegun registry invocation old.failures after fault → IsNotBuilt registers old invocation fault after
not_built registers registry old invocation fault after scripts (inl (inl out)) = inr (inr (inl out))
not_built registers registry old invocation fault after scripts (inl (inr (inl words))) = inr (inl (registry, scripts, inl words))
not_built registers registry old invocation fault after scripts (inl (inr (inr plan))) = inr (inl (registry, scripts, inr plan))
not_built registers registry old invocation fault after scripts (inr (inl out)) = inr (inr (inl out))
not_built registers registry old invocation fault after scripts (inr (inr device)) =
    inr (inr (inr (
      device.0,
      or_right (bytes_eq device.0 (codes "settings.gb") || bytes_eq (last_segment device.0) (codes "build.gb")) _ device.1,
      device.2,
    )))

-- what was requested is refused, and the fault is returned
pub by_refusal : (registry : Registry) (invocation : Invocation) (requested excluded : List Text) (fault reported : Fault) (before after : ℕ) → requested ≡ invocation.requested → excluded ≡ invocation.excluded
    → reported ≡ fault → IsRefusalOf registry requested excluded fault → IsNotBegun registry invocation before after reported
by_refusal registry invocation requested excluded fault reported before after same_requested same_excluded same refusal =
    inl (subst (IsRefusalOf registry invocation.requested invocation.excluded) (sym same)
    (subst (λ (words : List Text). IsRefusalOf registry invocation.requested words fault) same_excluded
    (subst (λ (words : List Text). IsRefusalOf registry words excluded fault) same_requested refusal)))

-- records could not be read, and the fault is returned
pub by_reading : (registry : Registry) (invocation : Invocation) (fault reported : Fault) (before after : ℕ) → reported ≡ fault → IsUnread invocation.options.dry_run before after fault
    → IsNotBegun registry invocation before after reported
by_reading registry invocation fault reported before after same why = inr (subst (IsUnread invocation.options.dry_run before after) (sym same) why)

pub if_reported : (registry : Registry) (invocation : Invocation) (result : Result Report Fault) (reported : Fault) (before after : ℕ) → result ≡ Err reported → IsNotBegun registry invocation before after reported
    → IfErr result (IsNotBegun registry invocation before after)
if_reported registry invocation result reported before after is why = subst (λ (r : Result Report Fault). IfErr r (IsNotBegun registry invocation before after)) (sym is) why

-- an invocation that is not begun, and changed nothing
pub refused_leads : (setting : Setting) (registry : Registry) (old end : Shown) (invocation : Invocation) (fault : Fault)
    → setting.registers (outside old.contents).files invocation.properties (Ok registry) → IsNotBegun registry invocation old.failures end.failures fault
    → end.contents ≡ old.contents → (result : Result Report Fault) → result ≡ Err fault → IsTransition setting old (events.Invoke invocation) (answer_of result) end
refused_leads setting registry old end invocation fault scripts why same result is =
    subst (λ (r : Result Report Fault). IsTransition setting old (events.Invoke invocation) (answer_of r) end) (sym is)
    (λ remembered clear observed worth. nothing_leads setting old end (events.Invoke invocation) (answers.NotBuilt fault) same remembered clear observed worth
    (not_built setting.registers registry old invocation fault end.failures scripts why, same, refl))

-- ---- The device

unblamed : (fault : Fault) (before after : ℕ) → before ≤ after → is_of_device fault ≡ false → HasFailed (times_attributed (answer_of (Err fault))) before after
unblamed fault before after count none = subst (λ (b : Bool). HasFailed (cond b 1 0) before after) (sym none) (inl (omega (arith, count)))

-- a refusal attributes a fault to the device at most once, and then the device failed
pub refused_fails : (registry : Registry) (invocation : Invocation) (fault : Fault) (before after : ℕ) → NoneBlameDevice registry → before ≤ after
    → IsNotBegun registry invocation before after fault → HasFailed (times_attributed (answer_of (Err fault))) before after
refused_fails registry invocation fault before after none count (inl (inl out)) = unblamed fault before after count (ap is_of_device out)
refused_fails registry invocation fault before after none count (inl (inr (inl words))) =
    unblamed fault before after count (words_blame_none registry invocation.requested invocation.excluded fault words)
refused_fails registry invocation fault before after none count (inl (inr (inr plan))) =
    unblamed fault before after count
    (refusal_blames_none plan.0 fault (subst NoneBlameDevice (sym (request_registry registry invocation.requested invocation.excluded plan.0 plan.1)) none) plan.2)
refused_fails registry invocation fault before after none count (inr (inl out)) = unblamed fault before after count (ap is_of_device out)
refused_fails registry invocation fault before after none count (inr (inr device)) =
    subst (λ (b : Bool). HasFailed (cond b 1 0) before after) (sym (ap is_of_device device.2.1)) (risen_once before after count device.2.0)

pub reported_fails : (registry : Registry) (invocation : Invocation) (fault : Fault) (before after : ℕ) → NoneBlameDevice registry → before ≤ after
    → IsNotBegun registry invocation before after fault → (result : Result Report Fault) → result ≡ Err fault → HasFailed (times_attributed (answer_of result)) before after
reported_fails registry invocation fault before after none count why result is =
    subst (λ (r : Result Report Fault). HasFailed (times_attributed (answer_of r)) before after) (sym is) (refused_fails registry invocation fault before after none count why)

-- ---- Places

not_of_device : (fault : Fault) (place : Place) → is_of_device fault ≡ false → fault ≡ faults.Device place → ⊥
not_of_device fault place none is = not_false (sym (ap is_of_device is) ∙ none)

-- a refusal attributes a fault to the device at no other place than one of the tool's own, and in a dry run
-- at none
pub refused_at : (registry : Registry) (invocation : Invocation) (fault : Fault) (before after : ℕ) → NoneBlameDevice registry → IsNotBegun registry invocation before after fault
    → (place : Place) → fault ≡ faults.Device place → IsTrue (is_own place && not invocation.options.dry_run)
refused_at registry invocation fault before after none (inl (inl out)) place is = absurd (cc (out, is))
refused_at registry invocation fault before after none (inl (inr (inl words))) place is =
    absurd (not_of_device fault place (words_blame_none registry invocation.requested invocation.excluded fault words) is)
refused_at registry invocation fault before after none (inl (inr (inr plan))) place is =
    absurd (not_of_device fault place
    (refusal_blames_none plan.0 fault (subst NoneBlameDevice (sym (request_registry registry invocation.requested invocation.excluded plan.0 plan.1)) none) plan.2) is)
refused_at registry invocation fault before after none (inr (inl out)) place is = absurd (cc (out, is))
refused_at registry invocation fault before after none (inr (inr device)) place is =
    let same : device.0 ≡ place = cc (device.2.1, is) in
    subst (λ (p : Place). IsTrue (is_own p && not invocation.options.dry_run)) same device.1
