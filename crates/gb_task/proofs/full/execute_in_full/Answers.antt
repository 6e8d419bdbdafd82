use Rattle.std.proofs.Common.{◌≡◌, not, refl, rules, sym, subst}
use Rattle.gb_folder.specs.Files.{is_empty}
use Rattle.gb_report.specs.declared.report.TaskReport.{TaskReport}
use Rattle.gb_task.specs.Executing.{HasExecuted, setting_with}
use Rattle.gb_task.proofs.Reported.{same_report}
use Rattle.gb_task.proofs.full.execute_in_full.Goals as goal

pub returns-clause-outcome : goal.returns-clause-outcome
returns-clause-outcome g c = (c.run_with_record-ended.result, c.outcome_of.ensures)

pub returns-clause-execution : goal.returns-clause-execution
returns-clause-execution g c = λ faithful kinds registry_of options plan moment given at read due.
    let F = g.F.Folder in
    let task = c.args.task.now in
    let start = c.args.folder.now in
    let now = c.run_with_record-ended.new.folder in
    let acts : not c.is_empty-has_actions.result ≡ not (is_empty task.actions) = search rules in
    subst (λ (report : TaskReport). HasExecuted (setting_with kinds registry_of (F.device.may_leave start)) options plan task moment report (F.device.contents start) (F.device.failures now) (F.device.contents now))
    (sym (same_report _ _ _ _ _ _ _ _ c.requires.path c.outcome_of.ensures acts refl))
    (c.run_with_record-ended.ensures.execution faithful kinds registry_of options plan moment given at read due)

pub returns-clause-ran : goal.returns-clause-ran
returns-clause-ran g c = λ first before inputs. (c.run_with_record-ended.result, c.outcome_of.ensures, c.run_with_record-ended.ensures.ran first before inputs)
