use Rattle.std.proofs.Common.{◌≡◌, not, refl, rules, sym, subst}
use Rattle.gb_folder.specs.Files.{is_empty}
use Rattle.gb_report.specs.declared.report.TaskReport.{TaskReport}
use Rattle.gb_task.specs.Executing.{HasExecuted, setting_with}
use Rattle.gb_task.proofs.Reported.{same_report}
use Rattle.gb_task.proofs.incremental.execute_by_changes.Goals as goal

pub returns-clause-outcome : goal.returns-clause-outcome
returns-clause-outcome g c = (c.go_on-ended.result, c.outcome_of.ensures)

pub returns-clause-execution : goal.returns-clause-execution
returns-clause-execution g c = λ faithful kinds registry_of plan moment given at read existed due.
    let F = g.F.Folder in
    let task = c.args.task.now in
    let start = c.args.folder.now in
    let now = c.go_on-ended.new.folder in
    let acts : not c.is_empty-has_actions.result ≡ not (is_empty task.actions) = search rules in
    subst (λ (report : TaskReport). HasExecuted (setting_with kinds registry_of (F.device.may_leave start)) c.args.options plan task moment report (F.device.contents start) (F.device.failures now) (F.device.contents now))
    (sym (same_report _ _ _ _ _ _ _ _ c.requires.path c.outcome_of.ensures acts refl))
    (c.go_on-ended.ensures.execution faithful kinds registry_of plan moment given at read existed due)

pub returns-clause-ran : goal.returns-clause-ran
returns-clause-ran g c = λ first before inputs outputs. (c.go_on-ended.result, c.outcome_of.ensures, c.go_on-ended.ensures.ran first before inputs outputs)
