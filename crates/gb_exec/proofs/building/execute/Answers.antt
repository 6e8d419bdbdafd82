use Rattle.std.proofs.Common.{cond, Bool, true, List, [], inl, inr, map, sym, ap, subst, ◌∙◌}
use Rattle.std.specs.List.{AllZip, flat_map}
use Rattle.gb_exec.specs.Notifying.{AllReported}
use Rattle.gb_semantics.specs.Events.{State}
use Rattle.gb_semantics.specs.Outline.{AreOutlines}
use Rattle.gb_semantics.specs.Execution.{dry_reports, heard_of}
use Rattle.gb_plan.specs.declared.plan.Planned.{Planned}
use Rattle.gb_printer.specs.Printing.{Prints}
use Rattle.gb_printer.proofs.Printed.{prints_nothing}
use Rattle.gb_report.specs.Report.{task_text}
use Rattle.gb_report.specs.declared.report.TaskReport.{TaskReport}
use Rattle.gb_task.specs.Executing.{setting_with}
use Rattle.gb_exec.specs.Built.{HasBuilt}
use Rattle.gb_semantics.specs.Headline.{HasFailed}
use Rattle.gb_exec.specs.Failing.{times_attributed}
use Rattle.gb_exec.specs.Reports.{IsOf}
use Rattle.gb_exec.proofs.Skipping.{dry_blames, dry_built, dry_of}
use Rattle.gb_exec.proofs.Hearing.{unnotified}
use Rattle.gb_exec.proofs.Asking.{dry_requests, executions_places}
use Rattle.gb_exec.specs.Asking.{ExecutionsRequest}
use Rattle.gb_exec.proofs.building.execute.Goals as goal

pub returns-then-options-clause-of_tasks : goal.returns-then-options-clause-of_tasks
returns-then-options-clause-of_tasks g c =
    subst (AllZip IsOf c.args.plan.now) (sym (c.with_reports.ensures.tasks ∙ c.in_ok-dry_reports.ensures ∙ ap dry_reports c.as_slice-tasks.ensures)) (dry_of c.args.plan.now)

pub returns-then-options-clause-outline : goal.returns-then-options-clause-outline
returns-then-options-clause-outline g c =
    inl (c.if-options.true, c.with_reports.ensures.tasks ∙ c.in_ok-dry_reports.ensures ∙ ap dry_reports c.as_slice-tasks.ensures)

pub returns-then-options-clause-heard : goal.returns-then-options-clause-heard
returns-then-options-clause-heard g c =
    let ears = map g.L.TaskListener.ear c.args.listeners.now.items in
    c.reported_is_heard.ensures c.with_reports.result true ears ears c.with_reports.ensures.refused
    (subst (λ (dry : Bool). AllReported (heard_of dry c.with_reports.result.tasks) true ears ears) (sym c.with_reports.ensures.dry_run) (unnotified ears))

pub returns-then-options-clause-printed : goal.returns-then-options-clause-printed
returns-then-options-clause-printed g c =
    let P = g.P.Printer in
    let start = c.args.printer.now in
    subst (λ (dry : Bool). Prints P.contents P.whole (cond dry [] (flat_map task_text c.with_reports.result.tasks)) start start) (sym c.with_reports.ensures.dry_run)
    (prints_nothing P.contents P.whole start)

pub returns-then-options-clause-device : goal.returns-then-options-clause-device
returns-then-options-clause-device g c =
    let F = g.F.Folder in
    subst (λ (rs : List TaskReport). HasFailed (times_attributed rs) (F.device.failures c.args.folder.now) (F.device.failures c.args.folder.now)) (sym (c.with_reports.ensures.tasks ∙ c.in_ok-dry_reports.ensures ∙ ap dry_reports c.as_slice-tasks.ensures))
    (dry_blames c.args.plan.now (F.device.failures c.args.folder.now))

pub returns-then-options-clause-build : goal.returns-then-options-clause-build
returns-then-options-clause-build g c = λ faithful kinds registry_of remembered clear observed assumed worth.
    let F = g.F.Folder in
    let start = c.args.folder.now in
    let old : State = record { contents = F.device.contents start; remembered = remembered; failures = F.device.failures start } in
    subst (λ (rs : List TaskReport). HasBuilt (setting_with kinds registry_of (F.device.may_leave start)) clear observed c.args.options c.args.plan.now old rs (record { contents = F.device.contents start; failures = F.device.failures start }))
    (sym (c.with_reports.ensures.tasks ∙ c.in_ok-dry_reports.ensures ∙ ap dry_reports c.as_slice-tasks.ensures))
    (dry_built kinds registry_of (F.device.may_leave start) clear observed c.args.options c.args.plan.now old c.if-options.true (λ e. (worth e).existing))

pub returns-clause-outline : goal.returns-clause-outline
returns-clause-outline g c =
    inr (
      c.if-options.false,
      subst (λ (rs : List TaskReport). AreOutlines c.args.options c.args.plan.now [] c.args.plan.now rs) (sym c.with_reports-2.ensures.tasks)
          (subst (λ (ps : List Planned). AreOutlines c.args.options ps [] ps c.execute_tasks-all_heard.new.reports.items) c.as_slice-tasks.ensures c.execute_tasks-all_heard.ensures.outline),
    )

pub returns-clause-heard : goal.returns-clause-heard
returns-clause-heard g c =
    let ear = g.L.TaskListener.ear in
    let first = map ear c.args.listeners.now.items in
    let last = map ear c.execute_tasks-all_heard.new.listeners.items in
    c.reported_is_heard.ensures c.with_reports-2.result c.execute_tasks-all_heard.result first last c.with_reports-2.ensures.refused
    (subst (λ (rs : List TaskReport). AllReported (heard_of c.with_reports-2.result.dry_run rs) c.execute_tasks-all_heard.result first last) (sym c.with_reports-2.ensures.tasks)
    (subst (λ (dry : Bool). AllReported (heard_of dry c.execute_tasks-all_heard.new.reports.items) c.execute_tasks-all_heard.result first last) (sym c.with_reports-2.ensures.dry_run)
    c.execute_tasks-all_heard.ensures.heard))

pub returns-clause-printed : goal.returns-clause-printed
returns-clause-printed g c =
    let P = g.P.Printer in
    let start = c.args.printer.now in
    let end = c.execute_tasks-all_heard.new.printer in
    subst (λ (dry : Bool). Prints P.contents P.whole (cond dry [] (flat_map task_text c.with_reports-2.result.tasks)) start end) (sym c.with_reports-2.ensures.dry_run)
    (subst (λ (rs : List TaskReport). Prints P.contents P.whole (flat_map task_text rs) start end) (sym c.with_reports-2.ensures.tasks)
    c.execute_tasks-all_heard.ensures.printed)

pub returns-then-options-clause-requests : goal.returns-then-options-clause-requests
returns-then-options-clause-requests g c =
    let F = g.F.Folder in
    subst (λ (rs : List TaskReport). ExecutionsRequest F.device g.A.Actions.meanings c.args.table.now c.args.options c.args.plan.now c.args.records.now rs c.args.folder.now c.args.folder.now c.args.folder.now)
    (sym (c.with_reports.ensures.tasks ∙ c.in_ok-dry_reports.ensures ∙ ap dry_reports c.as_slice-tasks.ensures))
    (dry_requests F.device g.A.Actions.meanings c.args.table.now c.args.options c.args.plan.now c.args.records.now c.args.folder.now c.requires.each)

pub returns-clause-requests : goal.returns-clause-requests
returns-clause-requests g c =
    let F = g.F.Folder in
    let start = c.args.folder.now in
    subst (λ (rs : List TaskReport). ExecutionsRequest F.device g.A.Actions.meanings c.args.table.now c.args.options c.args.plan.now c.args.records.now rs start start c.execute_tasks-all_heard.new.folder) (sym c.with_reports-2.ensures.tasks)
    (subst (λ (ps : List Planned). ExecutionsRequest F.device g.A.Actions.meanings c.args.table.now c.args.options ps c.args.records.now c.execute_tasks-all_heard.new.reports.items start start c.execute_tasks-all_heard.new.folder)
    c.as_slice-tasks.ensures c.execute_tasks-all_heard.ensures.requests)

pub returns-clause-changes : goal.returns-clause-changes
returns-clause-changes g c =
    let F = g.F.Folder in
    let start = c.args.folder.now in
    executions_places F.device g.A.Actions.meanings c.args.table.now c.args.options c.args.plan.now c.args.records.now c.execute_tasks-all_heard.new.reports.items start start c.execute_tasks-all_heard.new.folder
    (subst (λ (ps : List Planned). ExecutionsRequest F.device g.A.Actions.meanings c.args.table.now c.args.options ps c.args.records.now c.execute_tasks-all_heard.new.reports.items start start c.execute_tasks-all_heard.new.folder)
    c.as_slice-tasks.ensures c.execute_tasks-all_heard.ensures.requests)
