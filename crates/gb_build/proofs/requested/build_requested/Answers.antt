use Rattle.std.proofs.Common.{List, Ok, Option, ap, arith, inl, subst, sym, ◌∙◌}
use Rattle.std.proofs.lemmas.Result.{err_from_is_err_and}
use Rattle.std.specs.List.{AllZip}
use Rattle.gb_folder.specs.Files.{Contents}
use Rattle.gb_history.specs.Record.{Record}
use Rattle.gb_semantics.specs.Edits.{Shown}
use Rattle.gb_plan.specs.declared.plan.Planned.{Planned}
use Rattle.gb_plan.specs.Graph.{order}
use Rattle.gb_records.specs.Said.{IsReadAt}
use Rattle.gb_folder.specs.Changes.{ChangesOnly}
use Rattle.gb_task.specs.Executing.{setting_with}
use Rattle.gb_exec.specs.Building.{is_of_executions}
use Rattle.gb_build.proofs.Changed.{elsewhere}
use Rattle.gb_build.proofs.Holding.{built_leads}
use Rattle.gb_build.proofs.Leading.{led_holds}
use Rattle.gb_build.proofs.Planning.{all_declared, can_build, own_places, plan_of}
use Rattle.gb_task.proofs.Recorded.{assumed_later}
use Rattle.gb_build.proofs.Refusing.{by_reading, by_refusal, if_reported, refused_leads, reported_fails}
use Rattle.gb_folder.specs.Calls.{Requests, no_change}
use Rattle.gb_folder.proofs.Elsewhere.{changed_there}
use Rattle.gb_folder.proofs.Asked.{requests_nothing}
use Rattle.gb_records.specs.Answered.{WasAnswered}
use Rattle.gb_build.proofs.Asking.{refused_requests}
use Rattle.gb_build.proofs.requested.build_requested.Goals as goal

-- ---- Refused with no plan

pub returns-in_err-plan-clause-not_begun : goal.returns-in_err-plan-clause-not_begun
returns-in_err-plan-clause-not_begun g c =
    let failures = g.F.Folder.device.failures c.args.folder.now in
    let p = err_from_is_err_and c.from_residual.result c.from_residual.ensures.1 in
    if_reported (g.Ts.Tasks.registry c.args.tasks.now) c.args.invocation.now c.from_residual.result p.0 failures failures p.1
    (by_refusal (g.Ts.Tasks.registry c.args.tasks.now) c.args.invocation.now c.as_slice-requested.result.now c.as_slice-excluded.result.now c.in_err-plan.field-0.0 p.0 failures failures
    c.as_slice-requested.ensures c.as_slice-excluded.ensures p.2 c.in_err-plan.ensures.fault)

pub returns-in_err-plan-clause-device : goal.returns-in_err-plan-clause-device
returns-in_err-plan-clause-device g c = λ none.
    let failures = g.F.Folder.device.failures c.args.folder.now in
    let p = err_from_is_err_and c.from_residual.result c.from_residual.ensures.1 in
    reported_fails (g.Ts.Tasks.registry c.args.tasks.now) c.args.invocation.now p.0 failures failures none (omega arith)
    (by_refusal (g.Ts.Tasks.registry c.args.tasks.now) c.args.invocation.now c.as_slice-requested.result.now c.as_slice-excluded.result.now c.in_err-plan.field-0.0 p.0 failures failures
    c.as_slice-requested.ensures c.as_slice-excluded.ensures p.2 c.in_err-plan.ensures.fault)
    c.from_residual.result p.1

pub returns-in_err-plan-clause-leads : goal.returns-in_err-plan-clause-leads
returns-in_err-plan-clause-leads g c = λ faithful kinds registry_of assumed scripts.
    let F = g.F.Folder in
    let failures = F.device.failures c.args.folder.now in
    let old : Shown = record { contents = F.device.contents c.args.folder.now; failures = failures } in
    let p = err_from_is_err_and c.from_residual.result c.from_residual.ensures.1 in
    refused_leads (setting_with kinds registry_of (F.device.may_leave c.args.folder.now)) (g.Ts.Tasks.registry c.args.tasks.now) old old c.args.invocation.now p.0 scripts
    (by_refusal (g.Ts.Tasks.registry c.args.tasks.now) c.args.invocation.now c.as_slice-requested.result.now c.as_slice-excluded.result.now c.in_err-plan.field-0.0 p.0 failures failures
    c.as_slice-requested.ensures c.as_slice-excluded.ensures p.2 c.in_err-plan.ensures.fault)
    (λ i. F.device.contents c.args.folder.now) c.from_residual.result p.1

-- ---- Refused as records could not be read

pub returns-in_err-records-clause-not_begun : goal.returns-in_err-records-clause-not_begun
returns-in_err-records-clause-not_begun g c =
    let failures = g.F.Folder.device.failures in
    let p = err_from_is_err_and c.from_residual-in_err-records.result c.from_residual-in_err-records.ensures.1 in
    if_reported (g.Ts.Tasks.registry c.args.tasks.now) c.args.invocation.now c.from_residual-in_err-records.result p.0 (failures c.args.folder.now) (failures c.records_for.new.folder) p.1
    (by_reading (g.Ts.Tasks.registry c.args.tasks.now) c.args.invocation.now c.in_err-records.field-0.0 p.0 (failures c.args.folder.now) (failures c.records_for.new.folder) p.2 c.in_err-records.ensures.unread)

pub returns-in_err-records-clause-leads : goal.returns-in_err-records-clause-leads
returns-in_err-records-clause-leads g c = λ faithful kinds registry_of assumed scripts.
    let F = g.F.Folder in
    let old : Shown = record { contents = F.device.contents c.args.folder.now; failures = F.device.failures c.args.folder.now } in
    let new : Shown = record { contents = F.device.contents c.records_for.new.folder; failures = F.device.failures c.records_for.new.folder } in
    let p = err_from_is_err_and c.from_residual-in_err-records.result c.from_residual-in_err-records.ensures.1 in
    refused_leads (setting_with kinds registry_of (F.device.may_leave c.args.folder.now)) (g.Ts.Tasks.registry c.args.tasks.now) old new c.args.invocation.now p.0 scripts
    (by_reading (g.Ts.Tasks.registry c.args.tasks.now) c.args.invocation.now c.in_err-records.field-0.0 p.0 old.failures new.failures p.2 c.in_err-records.ensures.unread)
    (c.records_for.ensures.reads.same faithful) c.from_residual-in_err-records.result p.1

-- ---- Executed

pub execute-requires-clause-can : goal.execute-requires-clause-can
execute-requires-clause-can g c =
    can_build (g.Ts.Tasks.registry c.args.tasks.now) c.as_slice-requested.result.now c.as_slice-excluded.result.now c.in_ok-plan.plan c.in_ok-plan.ensures.plan
    g.A.Actions.meanings c.args.table.now c.requires

pub returns-in_err-report-clause-leads : goal.returns-in_err-report-clause-leads
returns-in_err-report-clause-leads g c = λ faithful kinds registry_of assumed scripts.
    let F = g.F.Folder in
    let old : Shown = record { contents = F.device.contents c.args.folder.now; failures = F.device.failures c.args.folder.now } in
    let new : Shown = record { contents = F.device.contents c.execute.new.folder; failures = F.device.failures c.execute.new.folder } in
    let p = err_from_is_err_and c.from_residual-in_err-report.result c.from_residual-in_err-report.ensures.1 in
    refused_leads (setting_with kinds registry_of (F.device.may_leave c.args.folder.now)) (g.Ts.Tasks.registry c.args.tasks.now) old new c.args.invocation.now p.0 scripts
    (inl (inl p.2))
    (ap F.device.contents c.in_err-report.ensures.unbegun ∙ c.records_for.ensures.reads.same (c.execute.ensures.changes.back faithful)) c.from_residual-in_err-report.result p.1

pub returns-clause-elsewhere : goal.returns-clause-elsewhere
returns-clause-elsewhere g c = λ faithful.
    let F = g.F.Folder in
    elsewhere (g.Ts.Tasks.registry c.args.tasks.now) c.in_ok-plan.plan
    (all_declared (g.Ts.Tasks.registry c.args.tasks.now) c.as_slice-requested.result.now c.as_slice-excluded.result.now c.in_ok-plan.plan c.in_ok-plan.ensures.plan (g.Ts.Tasks.sound c.args.tasks.now))
    (F.device.contents c.args.folder.now) (F.device.contents c.execute.new.folder)
    (subst (λ (contents : Contents). ChangesOnly (is_of_executions c.in_ok-plan.plan) contents (F.device.contents c.execute.new.folder)) (c.records_for.ensures.reads.same (c.execute.ensures.changes.back faithful)) (changed_there c.execute.ensures.changes faithful))

pub returns-clause-leads : goal.returns-clause-leads
returns-clause-leads g c = λ faithful kinds registry_of assumed scripts remembered_now is_clear observed_now exists.
    let F = g.F.Folder in
    let registry = g.Ts.Tasks.registry c.args.tasks.now in
    let plan = c.in_ok-plan.plan in
    let old : Shown = record { contents = F.device.contents c.args.folder.now; failures = F.device.failures c.args.folder.now } in
    let mid : Shown = record { contents = F.device.contents c.records_for.new.folder; failures = F.device.failures c.records_for.new.folder } in
    let new : Shown = record { contents = F.device.contents c.execute.new.folder; failures = F.device.failures c.execute.new.folder } in
    let is_plan = plan_of registry c.as_slice-requested.result.now c.args.invocation.now.requested c.as_slice-excluded.result.now c.args.invocation.now.excluded plan
    c.as_slice-requested.ensures c.as_slice-excluded.ensures c.in_ok-plan.ensures.plan in
    let can = can_build registry c.args.invocation.now.requested c.args.invocation.now.excluded plan is_plan g.A.Actions.meanings c.args.table.now c.requires in
    built_leads kinds registry_of (F.device.may_leave c.args.folder.now) registry (g.Ts.Tasks.sound c.args.tasks.now) c.args.invocation.now plan is_plan
    (own_places g.A.Actions.meanings c.args.table.now plan can) old new c.in_ok-report.report c.in_ok-report.ensures.dry_run (g.met.F.Folder.sound c.execute.new.folder)
    (subst (λ (contents : Contents). ChangesOnly (is_of_executions plan) contents new.contents) (c.records_for.ensures.reads.same (c.execute.ensures.changes.back faithful)) (changed_there c.execute.ensures.changes faithful))
    (λ dry. ap F.device.contents (c.execute.ensures.dry dry) ∙ c.records_for.ensures.reads.same (c.execute.ensures.changes.back faithful))
    (omega (arith, c.records_for.ensures.reads.requests.count, c.execute.ensures.changes.count)) scripts
    mid (c.records_for.ensures.reads.same (c.execute.ensures.changes.back faithful)) c.records_for.ensures.reads.requests.count (F.device.may_leave c.records_for.new.folder) c.records_for.ensures.reads.requests.tearing
    c.as_slice-2.result.now
    (λ not_dry. subst (λ (records : List (Option Record)). AllZip (IsReadAt old.contents.files) (order plan) records) (sym c.as_slice-2.ensures.value)
    (subst (λ (tasks : List Planned). AllZip (IsReadAt old.contents.files) (order tasks) c.in_ok-records.records.items) c.as_slice.ensures (c.in_ok-records.ensures.read (c.execute.ensures.changes.back faithful) not_dry)))
    (λ remembered clear observed worth. c.in_ok-report.ensures.build faithful kinds registry_of remembered clear observed
    (assumed_later (F.device.may_leave c.args.folder.now) (F.device.may_leave c.records_for.new.folder) c.records_for.ensures.reads.requests.tearing assumed) worth)
    remembered_now is_clear observed_now exists

pub returns-in_err-plan-clause-holds : goal.returns-in_err-plan-clause-holds
returns-in_err-plan-clause-holds g c = λ faithful kinds registry_of assumed scripts.
    let F = g.F.Folder in
    let old : Shown = record { contents = F.device.contents c.args.folder.now; failures = F.device.failures c.args.folder.now } in
    let new : Shown = record { contents = F.device.contents c.args.folder.now; failures = F.device.failures c.args.folder.now } in
    led_holds (setting_with kinds registry_of (F.device.may_leave c.args.folder.now)) old new c.args.invocation.now c.from_residual.result (omega arith)
    (returns-in_err-plan-clause-leads g c faithful kinds registry_of assumed scripts)

pub returns-in_err-records-clause-holds : goal.returns-in_err-records-clause-holds
returns-in_err-records-clause-holds g c = λ faithful kinds registry_of assumed scripts.
    let F = g.F.Folder in
    let old : Shown = record { contents = F.device.contents c.args.folder.now; failures = F.device.failures c.args.folder.now } in
    let new : Shown = record { contents = F.device.contents c.records_for.new.folder; failures = F.device.failures c.records_for.new.folder } in
    led_holds (setting_with kinds registry_of (F.device.may_leave c.args.folder.now)) old new c.args.invocation.now c.from_residual-in_err-records.result c.records_for.ensures.reads.requests.count
    (returns-in_err-records-clause-leads g c faithful kinds registry_of assumed scripts)

pub returns-in_err-report-clause-holds : goal.returns-in_err-report-clause-holds
returns-in_err-report-clause-holds g c = λ faithful kinds registry_of assumed scripts.
    let F = g.F.Folder in
    let old : Shown = record { contents = F.device.contents c.args.folder.now; failures = F.device.failures c.args.folder.now } in
    let new : Shown = record { contents = F.device.contents c.execute.new.folder; failures = F.device.failures c.execute.new.folder } in
    led_holds (setting_with kinds registry_of (F.device.may_leave c.args.folder.now)) old new c.args.invocation.now c.from_residual-in_err-report.result (omega (arith, c.records_for.ensures.reads.requests.count, c.execute.ensures.changes.count))
    (returns-in_err-report-clause-leads g c faithful kinds registry_of assumed scripts)

pub returns-clause-holds : goal.returns-clause-holds
returns-clause-holds g c = λ faithful kinds registry_of assumed scripts.
    let F = g.F.Folder in
    let old : Shown = record { contents = F.device.contents c.args.folder.now; failures = F.device.failures c.args.folder.now } in
    let new : Shown = record { contents = F.device.contents c.execute.new.folder; failures = F.device.failures c.execute.new.folder } in
    led_holds (setting_with kinds registry_of (F.device.may_leave c.args.folder.now)) old new c.args.invocation.now (Ok c.in_ok-report.report) (omega (arith, c.records_for.ensures.reads.requests.count, c.execute.ensures.changes.count))
    (returns-clause-leads g c faithful kinds registry_of assumed scripts)

-- ---- The calls that it makes

pub returns-in_err-plan-clause-requests : goal.returns-in_err-plan-clause-requests
returns-in_err-plan-clause-requests g c =
    let p = err_from_is_err_and c.from_residual.result c.from_residual.ensures.1 in
    refused_requests g.A.Actions.meanings c.args.table.now (g.Ts.Tasks.registry c.args.tasks.now) c.args.invocation.now c.from_residual.result p.0 c.args.folder.now c.args.folder.now p.1
    (requests_nothing c.args.folder.now)

pub returns-in_err-records-clause-requests : goal.returns-in_err-records-clause-requests
returns-in_err-records-clause-requests g c =
    let p = err_from_is_err_and c.from_residual-in_err-records.result c.from_residual-in_err-records.ensures.1 in
    refused_requests g.A.Actions.meanings c.args.table.now (g.Ts.Tasks.registry c.args.tasks.now) c.args.invocation.now c.from_residual-in_err-records.result p.0 c.args.folder.now c.records_for.new.folder p.1
    c.records_for.ensures.reads.requests

pub returns-in_err-report-clause-requests : goal.returns-in_err-report-clause-requests
returns-in_err-report-clause-requests g c =
    let F = g.F.Folder in
    let p = err_from_is_err_and c.from_residual-in_err-report.result c.from_residual-in_err-report.ensures.1 in
    refused_requests g.A.Actions.meanings c.args.table.now (g.Ts.Tasks.registry c.args.tasks.now) c.args.invocation.now c.from_residual-in_err-report.result p.0 c.args.folder.now c.execute.new.folder p.1
    (subst (λ now. Requests F.device no_change c.args.folder.now now) (sym c.in_err-report.ensures.unbegun) c.records_for.ensures.reads.requests)

pub returns-clause-requests : goal.returns-clause-requests
returns-clause-requests g c =
    let F = g.F.Folder in
    let plan = c.in_ok-plan.plan in
    let start = c.args.folder.now in
    let mid = c.records_for.new.folder in
    let is_plan = plan_of (g.Ts.Tasks.registry c.args.tasks.now) c.as_slice-requested.result.now c.args.invocation.now.requested c.as_slice-excluded.result.now c.args.invocation.now.excluded c.in_ok-plan.plan
    c.as_slice-requested.ensures c.as_slice-excluded.ensures c.in_ok-plan.ensures.plan in (
      record {
        request = is_plan.0;
        asked = is_plan.1;
        plan = plan;
        planned = is_plan.2;
        dry_run = c.in_ok-report.ensures.dry_run;
        outlines = c.in_ok-report.ensures.outline;
      },
      record {
        records = c.as_slice-2.result.now;
        begun = mid;
        first = c.records_for.ensures.reads.requests;
        answered = λ not_dry. subst (λ (records : List (Option Record)). AllZip (WasAnswered F.device start mid) (order plan) records) (sym c.as_slice-2.ensures.value)
            (subst (λ (tasks : List Planned). AllZip (WasAnswered F.device start mid) (order tasks) c.in_ok-records.records.items) c.as_slice.ensures (c.in_ok-records.ensures.answered not_dry));
        executions = c.in_ok-report.ensures.requests;
      },
    )
