use Rattle.std.proofs.Common.{◌≡◌, ◌≤◌, ℕ, true, Result, Err, map, sym, ap, subst, ◌∙◌, inl, inr}
use Rattle.std.proofs.lemmas.Result.{err_from_is_err_and}
use Rattle.gb_folder.specs.Files.{Contents}
use Rattle.gb_semantics.specs.Label.{Moment}
use Rattle.gb_semantics.specs.Tree.{trees_of}
use Rattle.gb_report.specs.declared.fault.Fault.{Fault}
use Rattle.gb_folder.proofs.Machine.{at_err}
use Rattle.gb_label.specs.Reading.{observed_of}
use Rattle.gb_task.specs.Recheck.{IsAsBefore, IsRecheck}
use Rattle.gb_task.specs.Current.{WasReadRecheck}
use Rattle.gb_task.specs.Executing.{HasExecuted, report_of, setting_with}
use Rattle.gb_task.proofs.ByChanges.{reading_failed}
use Rattle.gb_task.proofs.Later.{comes_later, due_since, turned_before}
use Rattle.gb_task.proofs.Recorded.{assumed_later}
use Rattle.gb_folder.proofs.Asked.{requests_nothing, requests_then, requests_reading}
use Rattle.gb_label.proofs.ReadingAnswering.{inputs_longer}
use Rattle.gb_task.proofs.incremental.go_on.Goals as goal

pub returns-in_err-inputs-clause-execution : goal.returns-in_err-inputs-clause-execution
returns-in_err-inputs-clause-execution g c = λ faithful kinds registry_of plan moment given at read existed goes.
    let F = g.F.Folder in
    let task = c.args.task.now in
    let start = c.args.folder.now in
    let now = c.recheck_task.new.folder in
    let p = err_from_is_err_and c.from_residual.result c.from_residual.ensures.1 in
    at_err (λ (r : Result (Unit {0}) Fault). HasExecuted (setting_with kinds registry_of (F.device.may_leave start)) c.args.options plan task moment (report_of task r c.args.lines.now) (F.device.contents start) (F.device.failures now) (F.device.contents now))
    c.from_residual.result p.0 c.in_err-inputs.field-0.0 p.1 p.2
    (reading_failed kinds registry_of (F.device.may_leave start) c.args.options plan task true moment (F.device.contents start) (F.device.failures start) _ c.requires.buildable.not_own c.requires.separate at
    (due_since kinds c.args.options task moment.world c.args.last.now goes)
    c.in_err-inputs.field-0.0 c.args.lines.now (F.device.failures now) (F.device.contents now) c.requires.no_lines (c.recheck_task.ensures.reads.same faithful) (c.in_err-inputs.ensures.err faithful read existed)
    (λ place e. c.recheck_task.ensures.blamed place (c.in_err-inputs.was ∙ ap Err e)))

pub returns-in-ByChanges-clause-execution : goal.returns-in-ByChanges-clause-execution
returns-in-ByChanges-clause-execution g c = λ faithful kinds registry_of plan moment given at read existed goes.
    let rechecked = c.run_by_decided_changes.ensures.requests.back faithful in
    let F = g.F.Folder in
    let task = c.args.task.now in
    let start = c.args.folder.now in
    let then = c.recheck_task.new.folder in
    let now = c.run_by_decided_changes.new.folder in
    let same : F.device.contents then ≡ F.device.contents start = c.recheck_task.ensures.reads.same rechecked in
    let later : Moment = record { world = moment.world; outcomes = moment.outcomes; failures = F.device.failures then } in
    let came = comes_later task true (F.device.contents start) (F.device.failures start) moment (F.device.contents then) (F.device.failures then) same at in
    let before = subst (IsAsBefore kinds c.args.options task (F.device.contents start).files moment.world) c.in-ByChanges.is (c.in_ok-inputs.ensures.as_before rechecked kinds moment.world at.folder read existed goes) in
    let report = report_of task c.run_by_decided_changes.result c.run_by_decided_changes.new.lines in
    turned_before kinds registry_of (F.device.may_leave start) (F.device.may_leave then) c.recheck_task.ensures.reads.requests.tearing c.args.options plan task moment (F.device.failures then)
    (subst (λ (n : ℕ). n ≤ F.device.failures then) (sym at.failures) c.recheck_task.ensures.reads.requests.count) report (F.device.contents start) (F.device.failures now) (F.device.contents now) c.run_by_decided_changes.ensures.requests.count
    (subst (λ (folder : Contents). HasExecuted (setting_with kinds registry_of (F.device.may_leave then)) c.args.options plan task later report folder (F.device.failures now) (F.device.contents now)) same
    (c.run_by_decided_changes.ensures.execution faithful kinds registry_of c.args.options plan later (assumed_later _ _ c.recheck_task.ensures.reads.requests.tearing given) came
    (before.0 ∙ ap (λ (folder : Contents). trees_of task folder.files) (sym same))
    (before.1 ∙ ap (λ (folder : Contents). map (observed_of folder.files) task.outputs) (sym same)) before.2))

pub returns-in-InFull-clause-execution : goal.returns-in-InFull-clause-execution
returns-in-InFull-clause-execution g c = λ faithful kinds registry_of plan moment given at read existed goes.
    let F = g.F.Folder in
    absurd
    (subst (IsAsBefore kinds c.args.options c.args.task.now (F.device.contents c.args.folder.now).files moment.world) c.in-InFull.is
    (c.in_ok-inputs.ensures.as_before (c.run_on.ensures.requests.back faithful) kinds moment.world at.folder read existed goes))

pub returns-in_err-inputs-clause-ran : goal.returns-in_err-inputs-clause-ran
returns-in_err-inputs-clause-ran g c = λ first before inputs outputs.
    let p = err_from_is_err_and c.from_residual.result c.from_residual.ensures.1 in
    inl (requests_then before c.recheck_task.ensures.reads.requests, c.requires.no_lines, p.0, p.1)

pub returns-in-ByChanges-clause-ran : goal.returns-in-ByChanges-clause-ran
returns-in-ByChanges-clause-ran g c = λ first before inputs outputs.
    let F = g.F.Folder in
    let task = c.args.task.now in
    let then = c.recheck_task.new.folder in
    let is_recheck = subst (IsRecheck c.args.options task c.args.last.now) c.in-ByChanges.is c.in_ok-inputs.ensures.recheck in
    let was = subst (WasReadRecheck F.device first then task) c.in-ByChanges.is (c.in_ok-inputs.ensures.answered first before inputs outputs) in
    let ran = c.run_by_decided_changes.ensures.ran in
    inr (inr (
      c.in-ByChanges.inputs.trees,
      c.in-ByChanges.changes,
      c.in-ByChanges.outputs.observed,
      then,
      record { requests = requests_then before c.recheck_task.ensures.reads.requests; inputs = was.0; named = is_recheck.0.named; sourced = (c.args.observed.inputs.items, inputs_longer (requests_nothing first) c.recheck_task.ensures.reads.requests task c.args.observed.inputs.items inputs, c.requires.source) },
      record { outputs = was.1; formed = is_recheck.1.formed; decided = is_recheck.2 },
      (
        ran.0,
        ran.1,
        ran.2,
      ),
    ))

pub returns-in-InFull-clause-ran : goal.returns-in-InFull-clause-ran
returns-in-InFull-clause-ran g c = λ first before inputs outputs.
    let F = g.F.Folder in
    let task = c.args.task.now in
    let then = c.recheck_task.new.folder in
    let was = subst (WasReadRecheck F.device first then task) c.in-InFull.is (c.in_ok-inputs.ensures.answered first before inputs outputs) in
    let is_recheck = subst (IsRecheck c.args.options task c.args.last.now) c.in-InFull.is c.in_ok-inputs.ensures.recheck in
    let ran = c.run_on.ensures.ran in
    inr (inl (
      c.in-InFull.inputs.trees,
      then,
      record { requests = requests_then before c.recheck_task.ensures.reads.requests; inputs = was; named = is_recheck.named; sourced = (c.args.observed.inputs.items, inputs_longer (requests_nothing first) c.recheck_task.ensures.reads.requests task c.args.observed.inputs.items inputs, c.requires.source) },
      (
        ran.0,
        ran.1,
        ran.2,
      ),
    ))

pub returns-in_err-inputs-clause-requests : goal.returns-in_err-inputs-clause-requests
returns-in_err-inputs-clause-requests g c = requests_reading c.recheck_task.ensures.reads.requests

pub returns-in-ByChanges-clause-requests : goal.returns-in-ByChanges-clause-requests
returns-in-ByChanges-clause-requests g c = requests_then (requests_reading c.recheck_task.ensures.reads.requests) c.run_by_decided_changes.ensures.requests

pub returns-in-InFull-clause-requests : goal.returns-in-InFull-clause-requests
returns-in-InFull-clause-requests g c = requests_then (requests_reading c.recheck_task.ensures.reads.requests) c.run_on.ensures.requests
