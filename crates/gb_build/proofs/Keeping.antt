-- What an invocation changes, by its answer.
use Rattle.std.specs.Prelude.{ℕ, ◌≡◌, ◌≤◌, Err, IfErr, IfOk, OnErr, Ok, Result}
use Rattle.std.proofs.Common.{sym, subst, inl, inr}
use Rattle.gb_folder.specs.Files.{Contents}
use Rattle.gb_folder.proofs.Changes.{HasRisen-before}
use Rattle.gb_build.specs.Refusing.{IsNotBegun}
use Rattle.gb_semantics.specs.declared.events.Event.TheVariants as events
use Rattle.gb_semantics.specs.declared.events.Invocation.{Invocation}
use Rattle.gb_semantics.specs.Headline.{EventKeeps, KeepsElsewhere, Registering, answer_of}
use Rattle.gb_semantics.specs.TrueRecord.{outside}
use Rattle.gb_plan.specs.Graph.{Registry}
use Rattle.gb_report.specs.declared.fault.Fault.{Fault}
use Rattle.gb_report.specs.declared.report.Report.{Report}

pub refusal_keeps : (registers : Registering) (invocation : Invocation) (result : Result Report Fault) (fault : Fault) → result ≡ Err fault
    → (old new : Contents) → new ≡ old → EventKeeps registers (events.Invoke invocation) (answer_of result) old new
refusal_keeps registers invocation result fault is old new same =
    subst (λ (r : Result Report Fault). EventKeeps registers (events.Invoke invocation) (answer_of r) old new) (sym is) same

pub invoked_keeps : (registers : Registering) (invocation : Invocation) (result : Result Report Fault) (old new : Contents) (registry : Registry)
    → registers (outside old).files invocation.properties (Ok registry) → KeepsElsewhere registry old new → OnErr result (new ≡ old)
    → EventKeeps registers (events.Invoke invocation) (answer_of result) old new
invoked_keeps registers invocation (Ok report) old new registry says keeps refused = (registry, says, keeps)
invoked_keeps registers invocation (Err fault) old new registry says keeps refused = refused

-- ---- What holds of a report or of a fault

pub of_fault : (P : Fault → Type 0) (result : Result Report Fault) (fault : Fault) → result ≡ Err fault → P fault → IfErr result P
of_fault P result fault is why = subst (λ (r : Result Report Fault). IfErr r P) (sym is) why

pub each_fault : (P Q : Fault → Type 0) → ((fault : Fault) → P fault → Q fault) → (result : Result Report Fault) → IfErr result P → IfErr result Q
each_fault P Q more (Ok report) why = tt
each_fault P Q more (Err fault) why = more fault why

pub each_report : (P Q : Report → Type 0) → ((report : Report) → P report → Q report) → (result : Result Report Fault) → IfOk result P → IfOk result Q
each_report P Q more (Ok report) is = more report is
each_report P Q more (Err fault) is = tt

-- ---- What was not begun later was not begun before

pub begun_before : (registry : Registry) (invocation : Invocation) (before later after : ℕ) → before ≤ later → later ≤ after → (fault : Fault)
    → IsNotBegun registry invocation later after fault → IsNotBegun registry invocation before after fault
begun_before registry invocation before later after earlier count fault (inl refused) = inl refused
begun_before registry invocation before later after earlier count fault (inr (inl out)) = inr (inl out)
begun_before registry invocation before later after earlier count fault (inr (inr (place, own, (risen, is)))) =
    inr (inr (place, own, (HasRisen-before before later after earlier count risen, is)))
