use Rattle.std.proofs.Common.{◌≡◌, not, arith, rules, sym, subst}
use Rattle.gb_folder.specs.Files.{is_empty}
use Rattle.gb_folder.proofs.Elsewhere.{taken_there}
use Rattle.gb_semantics.specs.Memory.{recalled}
use Rattle.gb_report.specs.declared.report.TaskReport.{TaskReport}
use Rattle.gb_task.specs.Executing.{HasExecuted, setting_with}
use Rattle.gb_task.proofs.Emptied.{cleared_execution}
use Rattle.gb_task.proofs.Given.{none_read}
use Rattle.gb_task.proofs.Reported.{same_report}
use Rattle.gb_task.proofs.sourceless.execute_without_source.Goals as goal

pub returns-clause-outcome : goal.returns-clause-outcome
returns-clause-outcome g c = (c.clear-cleared.result, c.outcome_of.ensures)

pub returns-clause-execution : goal.returns-clause-execution
returns-clause-execution g c = λ faithful kinds registry_of options plan moment observed at case.
    let F = g.F.Folder in
    let task = c.args.task.now in
    let start = c.args.folder.now in
    let now = c.clear-cleared.new.folder in
    let allowed = c.clear-cleared.ensures in
    let acts : not c.is_empty-has_actions.result ≡ not (is_empty task.actions) = search rules in
    subst (λ (report : TaskReport). HasExecuted (setting_with kinds registry_of (F.device.may_leave start)) options plan task moment report (F.device.contents start) (F.device.failures now) (F.device.contents now))
    (sym (same_report _ _ _ _ _ _ _ _ c.requires.path c.outcome_of.ensures acts c.new.ensures))
    (cleared_execution kinds registry_of (F.device.may_leave start) options plan task c.args.was_read moment (F.device.contents start) (F.device.failures start) c.requires.not_own at case
    (F.device.failures start) (F.device.failures now) (F.device.contents now) (omega arith) allowed.requests.count (taken_there allowed.requests faithful) c.clear-cleared.result allowed.blamed
    (allowed.cleared faithful observed moment.world.memory at.records (none_read (recalled moment.world.memory task.path) c.args.was_read at.read)))

pub returns-clause-calls : goal.returns-clause-calls
returns-clause-calls g c =
    let led = c.clear-cleared.ensures.calls in
    (led.0, c.clear-cleared.result, led.1, led.2, c.outcome_of.ensures)
