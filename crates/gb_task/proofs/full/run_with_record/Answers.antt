use Rattle.std.proofs.Common.{◌≡◌, ◌≤◌, ◌||◌, ℕ, Result, Err, sym, ap, subst, ◌∙◌, inl, inr}
use Rattle.std.proofs.lemmas.Result.{err_from_is_err_and}
use Rattle.gb_folder.specs.Files.{Contents}
use Rattle.gb_semantics.specs.Label.{Moment}
use Rattle.gb_semantics.specs.Tree.{trees_of}
use Rattle.gb_plan.specs.Task.{is_output_of}
use Rattle.gb_report.specs.declared.fault.Fault.{Fault}
use Rattle.gb_folder.proofs.Machine.{at_err}
use Rattle.gb_task.specs.Executing.{HasExecuted, report_of, setting_with}
use Rattle.gb_task.proofs.Later.{comes_later, turned_before}
use Rattle.gb_task.proofs.Recorded.{assumed_later}
use Rattle.gb_task.proofs.Whole.{reading_failed}
use Rattle.gb_folder.proofs.Asked.{requests_nothing, requests_then, requests_reading}
use Rattle.gb_label.proofs.ReadingAnswering.{inputs_longer}
use Rattle.gb_task.proofs.full.run_with_record.Goals as goal

pub returns-in_err-inputs-clause-execution : goal.returns-in_err-inputs-clause-execution
returns-in_err-inputs-clause-execution g c = λ faithful kinds registry_of options plan moment given at read due.
    let F = g.F.Folder in
    let task = c.args.task.now in
    let start = c.args.folder.now in
    let now = c.complete_inputs.new.folder in
    let p = err_from_is_err_and c.from_residual.result c.from_residual.ensures.1 in
    at_err (λ (r : Result (Unit {0}) Fault). HasExecuted (setting_with kinds registry_of (F.device.may_leave start)) options plan task moment (report_of task r c.args.lines.now) (F.device.contents start) (F.device.failures now) (F.device.contents now))
    c.from_residual.result p.0 c.in_err-inputs.field-0.0 p.1 p.2
    (reading_failed kinds registry_of (F.device.may_leave start) options plan task c.args.was_read moment (F.device.contents start) (F.device.failures start) c.requires.buildable.not_own c.requires.separate at due
    c.in_err-inputs.field-0.0 c.args.lines.now (F.device.failures now) (F.device.contents now) c.requires.no_lines (c.complete_inputs.ensures.reads.same faithful) (c.in_err-inputs.ensures.err faithful read)
    (λ place e. ap (λ b. b || is_output_of task place) (c.complete_inputs.ensures.blamed place (c.in_err-inputs.was ∙ ap Err e))))

pub returns-clause-execution : goal.returns-clause-execution
returns-clause-execution g c = λ faithful kinds registry_of options plan moment given at read due.
    let completed = c.run_on.ensures.requests.back faithful in
    let F = g.F.Folder in
    let task = c.args.task.now in
    let start = c.args.folder.now in
    let then = c.complete_inputs.new.folder in
    let now = c.run_on.new.folder in
    let same : F.device.contents then ≡ F.device.contents start = c.complete_inputs.ensures.reads.same completed in
    let later : Moment = record { world = moment.world; outcomes = moment.outcomes; failures = F.device.failures then } in
    let came = comes_later task c.args.was_read (F.device.contents start) (F.device.failures start) moment (F.device.contents then) (F.device.failures then) same at in
    turned_before kinds registry_of (F.device.may_leave start) (F.device.may_leave then) c.complete_inputs.ensures.reads.requests.tearing options plan task moment (F.device.failures then)
    (subst (λ (n : ℕ). n ≤ F.device.failures then) (sym at.failures) c.complete_inputs.ensures.reads.requests.count) (report_of task c.run_on.result c.run_on.new.lines) (F.device.contents start) (F.device.failures now) (F.device.contents now) c.run_on.ensures.requests.count
    (subst (λ (folder : Contents). HasExecuted (setting_with kinds registry_of (F.device.may_leave then)) options plan task later (report_of task c.run_on.result c.run_on.new.lines) folder (F.device.failures now) (F.device.contents now)) same
    (c.run_on.ensures.execution faithful kinds registry_of options plan later (assumed_later _ _ c.complete_inputs.ensures.reads.requests.tearing given) came
    (c.in_ok-inputs.ensures.trees completed read ∙ ap (λ (folder : Contents). trees_of task folder.files) (sym same)) due))

pub returns-in_err-inputs-clause-ran : goal.returns-in_err-inputs-clause-ran
returns-in_err-inputs-clause-ran g c = λ first before inputs.
    let p = err_from_is_err_and c.from_residual.result c.from_residual.ensures.1 in
    inl (requests_then before c.complete_inputs.ensures.reads.requests, c.requires.no_lines, p.0, p.1)

pub returns-clause-ran : goal.returns-clause-ran
returns-clause-ran g c = λ first before inputs.
    let F = g.F.Folder in
    let ran = c.run_on.ensures.ran in
    inr (
      c.in_ok-inputs.inputs.trees,
      c.complete_inputs.new.folder,
      record {
        requests = requests_then before c.complete_inputs.ensures.reads.requests;
        inputs = c.in_ok-inputs.ensures.answered first before inputs;
        named = c.in_ok-inputs.ensures.named;
        sourced = (
          c.args.inputs.items,
          inputs_longer (requests_nothing first) c.complete_inputs.ensures.reads.requests c.args.task.now c.args.inputs.items inputs,
          c.requires.source,
        );
      },
      (
        ran.0,
        ran.1,
        ran.2,
      ),
    )

pub returns-in_err-inputs-clause-requests : goal.returns-in_err-inputs-clause-requests
returns-in_err-inputs-clause-requests g c = requests_reading c.complete_inputs.ensures.reads.requests

pub returns-clause-requests : goal.returns-clause-requests
returns-clause-requests g c = requests_then (requests_reading c.complete_inputs.ensures.reads.requests) c.run_on.ensures.requests
