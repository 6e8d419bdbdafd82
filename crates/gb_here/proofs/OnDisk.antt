-- What a build of a folder on a disk leaves, by the laws on folders that keep their calls.
use Rattle.std.proofs.Common.{ℕ, ◌≡◌, ◌≤◌, ◌∙◌, arith, Bool, true, false, [], Option, None, Some, Result, Ok, Err, cond, inl, inr, refl, subst, sym}
use Rattle.std.specs.Prelude.{IfSome, nat_eq}
use Rattle.gb_answer.specs.Answer.{status_of}
use Rattle.gb_answers.specs.Scratch.{AnsweredSuccessIsFromScratch}
use Rattle.gb_answers.proofs.Logged.{leaves_from_scratch}
use Rattle.gb_cli.specs.Answered.{DoesFor, Given}
use Rattle.gb_build.specs.InvocationAsked.{InvocationRequests}
use Rattle.gb_disk.specs.Called.{calls_of, disk_device, is_next, supposed_of}
use Rattle.gb_disk.specs.declared.disk.DiskFolder.{DiskFolder}
use Rattle.gb_exec.proofs.Asking.{executions_places}
use Rattle.gb_folder.specs.Calls.{IsReachedBy, Permit, Requests, no_change, none, then}
use Rattle.gb_logged.specs.Logged.{LogsCalls}
use Rattle.gb_semantics.specs.declared.events.Invocation.{Invocation}
use Rattle.gb_registry.specs.Tables.{Tables}
use Rattle.gb_report.specs.Fault.{fault_number}
use Rattle.gb_report.specs.Outcome.{is_successful}
use Rattle.gb_report.specs.declared.fault.Fault.{Fault}
use Rattle.gb_report.specs.declared.report.Report.{Report}
use Rattle.gb_here.specs.OnDisk.{IsBuiltOnDisk}

pub built_on_disk : {R M N Z S A : Type 0} (tables : Tables M N Z S A) → LogsCalls {F = DiskFolder R} is_next calls_of
    → AnsweredSuccessIsFromScratch {F = DiskFolder R} disk_device tables
    → (given : Given) (answer : Result Report Fault) (old new : DiskFolder R) → calls_of old ≡ []
    → DoesFor disk_device tables given answer old new → IsBuiltOnDisk tables given answer old new
built_on_disk tables keeps law given answer old new begins (inl refused) = inl refused
built_on_disk tables keeps law given answer old new begins (inr requested) =
    inr (
      requested.0,
      requested.1,
      requested.2,
      leaves_from_scratch disk_device tables calls_of keeps law requested.0 answer old new begins requested.2.requests,
    )

-- ---- What was supposed

kept_along : {R : Type 0} (permit : Permit) (old : DiskFolder R) {new : DiskFolder R} → IsReachedBy disk_device permit old new → supposed_of new ≡ supposed_of old
kept_along permit old none = refl
kept_along permit old (then call new led permitted is) = is.allowed.1 ∙ kept_along permit old led

kept_by : {R : Type 0} (permit : Permit) (old new : DiskFolder R) → Requests disk_device permit old new → supposed_of new ≡ supposed_of old
kept_by permit old new requests = kept_along permit old (requests.calls none)

invoked : {R M N Z S A : Type 0} (tables : Tables M N Z S A) (asked : Invocation) (answer : Result Report Fault) (old new : DiskFolder R)
    → InvocationRequests disk_device tables asked answer old new → supposed_of new ≡ supposed_of old
invoked tables asked (Err fault) old new requests = kept_by no_change old new requests
invoked tables asked (Ok report) old new builds =
    kept_by _ builds.plan.begun new
    (executions_places disk_device tables.shapes tables.kinds asked.options builds.by.plan builds.plan.records report.tasks builds.plan.begun builds.plan.begun new builds.plan.executions)
    ∙ kept_by no_change builds.begun builds.plan.begun builds.plan.first
    ∙ kept_by no_change old builds.begun builds.first

pub supposed_kept : {R M N Z S A : Type 0} (tables : Tables M N Z S A) (given : Given) (answer : Result Report Fault) (old new : DiskFolder R)
    → DoesFor disk_device tables given answer old new → supposed_of new ≡ supposed_of old
supposed_kept tables given answer old new (inl refused) = kept_by no_change old new refused.3
supposed_kept tables given answer old new (inr requested) = invoked tables requested.0 answer old new requested.2.requests

-- ---- The status

low : (b : Bool) (x y : ℕ) → x ≤ 2 → y ≤ 2 → cond b x y ≤ 2
low true x y first second = first
low false x y first second = second

status_low : (answer : Result Report Fault) → status_of answer ≤ 2
status_low (Ok report) = low (is_successful report) 0 1 (omega arith) (omega arith)
status_low (Err fault) = low (nat_eq (fault_number fault) 96) 2 1 (omega arith) (omega arith)

pub bounded : (Shown : Type 0) (answer : Result Report Fault) (status : Option ℕ) → IfSome status (λ s. Shown × (s ≡ status_of answer))
    → IfSome status (λ s. s ≤ 2)
bounded Shown answer None is = tt
bounded Shown answer (Some s) is = subst (λ n. n ≤ 2) (sym is.1) (status_low answer)
