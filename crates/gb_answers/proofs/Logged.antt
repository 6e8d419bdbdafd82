-- A build over a folder that has kept no call before.
use Rattle.std.specs.Prelude.{◌≡◌, List, [], Result, Ok, Err, IfOk}
use Rattle.gb_answers.specs.Scratch.{AnsweredSuccessIsFromScratch, LeavesFromScratch}
use Rattle.gb_build.specs.InvocationAsked.{InvocationRequests}
use Rattle.gb_folder.specs.Calls.{Call, Device}
use Rattle.gb_logged.specs.Logged.{LogsCalls}
use Rattle.gb_semantics.specs.declared.events.Invocation.{Invocation}
use Rattle.gb_registry.specs.Tables.{Tables}
use Rattle.gb_report.specs.declared.fault.Fault.{Fault}
use Rattle.gb_report.specs.declared.report.Report.{Report}

pub leaves_from_scratch : {F M N Z S A : Type 0} (device : Device F) (tables : Tables M N Z S A) (log : F → List Call)
    → LogsCalls device.allowed log → AnsweredSuccessIsFromScratch device tables
    → (invocation : Invocation) (answer : Result Report Fault) (old new : F) → log old ≡ []
    → InvocationRequests device tables invocation answer old new
    → IfOk answer (λ report. LeavesFromScratch tables (device.may_leave old) invocation report (log new))
leaves_from_scratch device tables log keeps law invocation (Ok report) old new begins requests =
    λ kinds agrees start end remembered is none_failed.
    law log keeps kinds agrees invocation report old new start end remembered begins is requests none_failed
leaves_from_scratch device tables log keeps law invocation (Err fault) old new begins requests = tt
