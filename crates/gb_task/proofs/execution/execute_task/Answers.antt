use Rattle.std.specs.Prelude.{option_copied}
use Rattle.std.proofs.Common.{◌≡◌, ◌≤◌, ℕ, Bool, List, sym, subst, ◌∙◌}
use Rattle.gb_folder.specs.Files.{Contents}
use Rattle.gb_label.specs.Preparing.{IsObservedFor}
use Rattle.gb_semantics.specs.Label.{Moment}
use Rattle.gb_task.specs.ByOutcome.{since_after}
use Rattle.gb_task.specs.Executing.{BeginsAt, HasExecuted, setting_with}
use Rattle.gb_task.proofs.ByOutcome.{cleared_requests, ran_requests, reported_requests}
use Rattle.gb_task.proofs.Answering.{cleared_answers, run_answers, reported_answers}
use Rattle.gb_task.proofs.Later.{cleared_started, comes_later, copied_some, run_started, reported_turned, turned_before}
use Rattle.gb_task.proofs.Recorded.{assumed_later, observed_later}
use Rattle.gb_plan.specs.Task.{Text}
use Rattle.gb_tree.proofs.Remembering.{none_seen}
use Rattle.gb_task.specs.Stages.{Clears}
use Rattle.gb_task.proofs.execution.execute_task.Goals as goal

pub returns-in-Reported-clause-blame : goal.returns-in-Reported-clause-blame
returns-in-Reported-clause-blame g c = λ place is. (c.in-Reported.ensures.of_task.3 place is).0

pub returns-in-Reported-clause-answer : goal.returns-in-Reported-clause-answer
returns-in-Reported-clause-answer g c = reported_answers c.args.options c.args.task.now c.in-Reported.report c.in-Reported.ensures.of_task.2 c.in-Reported.ensures.answer

pub returns-in-Sourceless-clause-answer : goal.returns-in-Sourceless-clause-answer
returns-in-Sourceless-clause-answer g c =
    let cleared = c.execute_without_source in
    cleared_answers c.args.options c.args.task.now cleared.result cleared.ensures.lines c.in-Sourceless.ensures.of_task.1 cleared.ensures.outcome

pub returns-in-Due-clause-answer : goal.returns-in-Due-clause-answer
returns-in-Due-clause-answer g c = run_answers c.args.options c.args.task.now c.run.result c.run.ensures.outcome

pub returns-in-Reported-clause-execution : goal.returns-in-Reported-clause-execution
returns-in-Reported-clause-execution g c = λ faithful since before was kinds registry_of plan moment given at needed known.
    let F = g.F.Folder in
    let start = c.args.folder.now in
    let now = c.settle.new.folder in
    reported_turned kinds registry_of (F.device.may_leave start) c.args.options plan c.args.task.now _ moment c.in-Reported.report (F.device.contents start) (F.device.failures start) (F.device.failures now) (F.device.contents now) at
    (c.settle.ensures.reads.same faithful) (c.in-Reported.ensures.settled faithful since before was kinds registry_of plan moment at.folder at.failures needed known)

pub returns-in-Sourceless-clause-execution : goal.returns-in-Sourceless-clause-execution
returns-in-Sourceless-clause-execution g c = λ faithful since before was kinds registry_of plan moment given at needed known.
    let settled = c.execute_without_source.ensures.requests.back faithful in
    let F = g.F.Folder in
    let task = c.args.task.now in
    let start = c.args.folder.now in
    let then = c.settle.new.folder in
    let now = c.execute_without_source.new.folder in
    let same : F.device.contents then ≡ F.device.contents start = c.settle.ensures.reads.same settled in
    let came = comes_later task c.is_some.result (F.device.contents start) (F.device.failures start) moment (F.device.contents then) (F.device.failures then) same
    (subst (λ (b : Bool). BeginsAt task b (F.device.contents start) (F.device.failures start) moment) (copied_some c.args.last ∙ sym c.is_some.ensures) at) in
    let later : Moment = record { world = moment.world; outcomes = moment.outcomes; failures = F.device.failures then } in
    turned_before kinds registry_of (F.device.may_leave start) (F.device.may_leave then) c.settle.ensures.reads.requests.tearing c.args.options plan task moment (F.device.failures then)
    (subst (λ (n : ℕ). n ≤ F.device.failures then) (sym at.failures) c.settle.ensures.reads.requests.count) c.execute_without_source.result (F.device.contents start) (F.device.failures now) (F.device.contents now) c.execute_without_source.ensures.requests.count
    (subst (λ (folder : Contents). HasExecuted (setting_with kinds registry_of (F.device.may_leave then)) c.args.options plan task later c.execute_without_source.result folder (F.device.failures now) (F.device.contents now)) same
    (c.execute_without_source.ensures.execution faithful kinds registry_of c.args.options plan later (observed_later _ _ c.settle.ensures.reads.requests.tearing given.tears) came
    (c.in-Sourceless.ensures.settled settled since before was kinds registry_of plan moment at.folder at.failures needed known)))

pub run-requires-clause-due : goal.run-requires-clause-due
run-requires-clause-due g c = c.in-Due.ensures.of_task.1

pub run-requires-clause-read : goal.run-requires-clause-read
run-requires-clause-read g c = c.in-Due.ensures.of_task.2

pub returns-in-Due-clause-execution : goal.returns-in-Due-clause-execution
returns-in-Due-clause-execution g c = λ faithful since before was kinds registry_of plan moment given at needed known.
    let settled = c.run.ensures.requests.back faithful in
    let F = g.F.Folder in
    let task = c.args.task.now in
    let start = c.args.folder.now in
    let then = c.settle.new.folder in
    let now = c.run.new.folder in
    let same : F.device.contents then ≡ F.device.contents start = c.settle.ensures.reads.same settled in
    let came = comes_later task _ (F.device.contents start) (F.device.failures start) moment (F.device.contents then) (F.device.failures then) same at in
    let later : Moment = record { world = moment.world; outcomes = moment.outcomes; failures = F.device.failures then } in
    let due = c.in-Due.ensures.settled settled since before was kinds registry_of plan moment at.folder at.failures needed known in
    turned_before kinds registry_of (F.device.may_leave start) (F.device.may_leave then) c.settle.ensures.reads.requests.tearing c.args.options plan task moment (F.device.failures then)
    (subst (λ (n : ℕ). n ≤ F.device.failures then) (sym at.failures) c.settle.ensures.reads.requests.count) c.run.result (F.device.contents start) (F.device.failures now) (F.device.contents now) c.run.ensures.requests.count
    (subst (λ (folder : Contents). HasExecuted (setting_with kinds registry_of (F.device.may_leave then)) c.args.options plan task later c.run.result folder (F.device.failures now) (F.device.contents now)) same
    (c.run.ensures.execution faithful kinds registry_of plan later (assumed_later _ _ c.settle.ensures.reads.requests.tearing given) came due.0 due.1 due.2
    (subst (λ (folder : Contents). IsObservedFor task folder.files c.in-Due.observed c.in-Due.decision) (sym same) due.3) known))

pub returns-in-Reported-clause-started : goal.returns-in-Reported-clause-started
returns-in-Reported-clause-started g c = c.in-Reported.ensures.of_task.4

pub returns-in-Sourceless-clause-started : goal.returns-in-Sourceless-clause-started
returns-in-Sourceless-clause-started g c = cleared_started c.execute_without_source.result.outcome c.execute_without_source.ensures.outcome

pub returns-in-Due-clause-started : goal.returns-in-Due-clause-started
returns-in-Due-clause-started g c = run_started c.run.result.outcome c.run.ensures.outcome

pub returns-in-Reported-clause-requests : goal.returns-in-Reported-clause-requests
returns-in-Reported-clause-requests g c = λ since before was.
    let F = g.F.Folder in
    let report = c.in-Reported.report in
    reported_requests F.device g.A.Actions.meanings c.args.table.now c.args.options c.args.task.now (option_copied c.args.last) report.lines since c.args.folder.now c.settle.new.folder
    report.outcome c.in-Reported.ensures.of_task.2 c.in-Reported.ensures.of_task.4 c.in-Reported.ensures.of_task.5 c.in-Reported.ensures.of_task.6 c.settle.ensures.reads.requests (c.in-Reported.ensures.answered since before was)

pub returns-in-Sourceless-clause-requests : goal.returns-in-Sourceless-clause-requests
returns-in-Sourceless-clause-requests g c = λ since before was.
    let F = g.F.Folder in
    let task = c.args.task.now in
    let done = c.execute_without_source in
    let led = done.ensures.calls in
    cleared_requests F.device g.A.Actions.meanings c.args.table.now c.args.options task (option_copied c.args.last) done.result.lines since c.args.folder.now done.new.folder
    done.result.outcome led.1 led.4 (
      c.settle.new.folder,
      c.settle.ensures.reads.requests,
      c.in-Sourceless.ensures.answered since before was,
      (
        led.0,
        led.2,
        subst (λ (b : Bool). Clears task b led.0 done.result.lines led.1) (c.is_some.ensures ∙ sym (copied_some c.args.last))
            (subst (λ (ls : List Text). Clears task c.is_some.result led.0 ls led.1) (sym done.ensures.lines) led.3),
      ),
    )

pub returns-in-Due-clause-requests : goal.returns-in-Due-clause-requests
returns-in-Due-clause-requests g c = λ since before was.
    let F = g.F.Folder in
    let answered = c.in-Due.ensures.answered since before was in
    ran_requests F.device g.A.Actions.meanings c.args.table.now c.args.options c.args.task.now (option_copied c.args.last) c.run.result.lines since c.args.folder.now c.run.new.folder
    c.run.result.outcome (c.run.ensures.ran c.args.folder.now c.settle.ensures.reads.requests answered.0 answered.1)

pub returns-in-Reported-clause-seen : goal.returns-in-Reported-clause-seen
returns-in-Reported-clause-seen g c = c.in-Reported.ensures.remembers

pub returns-in-Sourceless-clause-seen : goal.returns-in-Sourceless-clause-seen
returns-in-Sourceless-clause-seen g c = λ since before was.
    let F = g.F.Folder in
    let done = c.execute_without_source in
    none_seen F.device (since_after done.result.outcome since done.new.folder) done.new.folder c.settle.new.seen c.in-Sourceless.ensures.remembers

pub returns-in-Due-clause-seen : goal.returns-in-Due-clause-seen
returns-in-Due-clause-seen g c = λ since before was.
    let F = g.F.Folder in
    none_seen F.device (since_after c.run.result.outcome since c.run.new.folder) c.run.new.folder c.settle.new.seen c.in-Due.ensures.remembers
