use Rattle.std.proofs.Common.{[], Result, inl, subst}
use Rattle.std.proofs.lemmas.Result.{err_from_is_err_and}
use Rattle.gb_folder.specs.Files.{Contents}
use Rattle.gb_report.specs.declared.fault.Fault.{Fault}
use Rattle.gb_folder.proofs.Machine.{at_err}
use Rattle.gb_task.specs.Clearing.{HasCleared}
use Rattle.gb_task.specs.Keeping.{IsForgotten}
use Rattle.gb_folder.proofs.Elsewhere.{removed_there, taken_there}
use Rattle.gb_task.proofs.Cleared.{cleared_by, records_stay}
use Rattle.gb_folder.proofs.Asked.{requests_then}
use Rattle.gb_task.proofs.Places.{outputs_taken, record_taken}
use Rattle.gb_task.specs.Stages.{Clears}
use Rattle.gb_task.proofs.Stages.{StageLed, cleared, kept}
use Rattle.gb_task.proofs.clearing.clear.Goals as goal

pub returns-in_err-forget-clause-cleared : goal.returns-in_err-forget-clause-cleared
returns-in_err-forget-clause-cleared g c = λ faithful observed memory existed none.
    let F = g.F.Folder in
    let task = c.args.task.now in
    let start = c.args.folder.now in
    let now = c.forget.new.folder in
    let new : Contents = F.device.contents now in
    let p = err_from_is_err_and c.from_residual.result c.from_residual.ensures.1 in
    at_err (λ r. HasCleared task c.args.was_read memory (F.device.may_leave start) (F.device.failures start) (F.device.contents start) r (F.device.failures now) (F.device.contents now)) c.from_residual.result p.0 c.in_err-forget.field-0.0 p.1 p.2
    (inl (record {
      read = c.in_err-forget.ensures.read;
      why = c.in_err-forget.ensures.err faithful;
      changes = removed_there c.forget.ensures.requests faithful;
      records = subst (λ (r : Result (Unit {0}) Fault). IsForgotten task.path memory r new.files) c.in_err-forget.was (c.forget.ensures.exists faithful observed memory existed none);
    }))

pub returns-clause-cleared : goal.returns-clause-cleared
returns-clause-cleared g c = λ faithful observed memory existed none.
    let forgotten = c.empty_outputs.ensures.requests.back faithful in
    let F = g.F.Folder in
    let task = c.args.task.now in
    let start = c.args.folder.now in
    let then = c.forget.new.folder in
    let now = c.empty_outputs.new.folder in
    let taken : Contents = F.device.contents then in
    cleared_by task c.args.was_read memory (F.device.may_leave start) (F.device.may_leave then) (F.device.failures start) (F.device.failures then) (F.device.failures now) (F.device.contents start) (F.device.contents then) (F.device.contents now)
    c.empty_outputs.result c.forget.ensures.requests.tearing c.forget.ensures.requests.count c.empty_outputs.ensures.requests.count (g.met.F.Folder.sound then) (removed_there c.forget.ensures.requests forgotten)
    (c.empty_outputs.ensures.ok faithful) (c.empty_outputs.ensures.err faithful)
    (records_stay task c.requires.not_own (F.device.contents then) (F.device.contents now) _ (taken_there c.empty_outputs.ensures.requests faithful)
    (subst (λ (r : Result (Unit {0}) Fault). IsForgotten task.path memory r taken.files) c.in_ok-forget.was (c.forget.ensures.exists forgotten observed memory existed none)))

pub returns-in_err-forget-clause-requests : goal.returns-in_err-forget-clause-requests
returns-in_err-forget-clause-requests g c = record_taken c.args.task.now c.forget.ensures.requests

pub returns-clause-requests : goal.returns-clause-requests
returns-clause-requests g c = requests_then (record_taken c.args.task.now c.forget.ensures.requests) (outputs_taken c.args.task.now c.empty_outputs.ensures.requests)

pub returns-in_err-forget-clause-calls : goal.returns-in_err-forget-clause-calls
returns-in_err-forget-clause-calls g c =
    let F = g.F.Folder in
    let task = c.args.task.now in
    let p = err_from_is_err_and c.from_residual.result c.from_residual.ensures.1 in
    at_err (λ r. StageLed F.device (Clears task c.args.was_read) c.args.folder.now [] r c.forget.new.folder) c.from_residual.result p.0 c.in_err-forget.field-0.0 p.1 p.2
    (kept F.device task c.args.was_read c.args.folder.now c.forget.new.folder c.in_err-forget.field-0.0 c.in_err-forget.ensures.calls)

pub returns-clause-calls : goal.returns-clause-calls
returns-clause-calls g c =
    let F = g.F.Folder in
    cleared F.device c.args.task.now c.args.was_read c.args.folder.now c.forget.new.folder c.empty_outputs.new.folder c.empty_outputs.result c.in_ok-forget.ensures.calls c.empty_outputs.ensures.calls
