use Rattle.std.proofs.Common.{◌≡◌, true, Some, Result, Err, IfErr, refl, arith, sym, ap, subst, ◌∙◌}
use Rattle.std.proofs.lemmas.Result.{err_from_is_err_and}
use Rattle.gb_folder.specs.Files.{Contents}
use Rattle.gb_folder.proofs.Changes.{SameTearing-chain}
use Rattle.gb_history.specs.Places.{record_place}
use Rattle.gb_history.specs.Record.{Record}
use Rattle.gb_history.specs.Text.{record_text}
use Rattle.gb_semantics.specs.Memory.{forget, recalled}
use Rattle.gb_records.specs.Said.{IsSaidOf}
use Rattle.gb_records.specs.Holding.{HoldsRecords}
use Rattle.gb_report.specs.declared.fault.Fault.{Fault}
use Rattle.gb_run.proofs.Existed.{made_exists}
use Rattle.gb_folder.specs.Changes.{ChangesOnly, is_at}
use Rattle.gb_folder.proofs.Machine.{at_err, changes_chain}
use Rattle.gb_run.proofs.Fitting.{all_fitting}
use Rattle.gb_label.specs.Reading.{digests_in}
use Rattle.gb_task.specs.Keeping.{IsForgotten, IsUnwritten, run_now}
use Rattle.gb_task.specs.Executing.{HasExecuted, is_of_execution, report_of, setting_with}
use Rattle.gb_folder.proofs.Elsewhere.{changed_there, removed_there, written_there}
use Rattle.gb_task.proofs.ByChanges.{forgetting_failed, goes_on, remembering, running_failed}
use Rattle.gb_task.proofs.Cleared.{outputs_in_execution, record_in_execution}
use Rattle.gb_task.proofs.Given.{none_read}
use Rattle.gb_task.proofs.Parts.{outside_same}
use Rattle.gb_task.proofs.Recorded.{record_exists, observed_later}
use Rattle.gb_task.specs.Stages.{IsOfRunByChanges, RunByChanges, WritesChanges}
use Rattle.gb_task.proofs.Stages.{StageLed, changes_kept, changes_on, made, unmade}
use Rattle.gb_folder.proofs.Asked.{requests_then}
use Rattle.gb_task.proofs.Places.{outputs_of, record_of, record_taken, taken_of}
use Rattle.gb_task.proofs.incremental_run.run_by_decided_changes.Goals as goal

pub returns-in_err-forget-clause-execution : goal.returns-in_err-forget-clause-execution
returns-in_err-forget-clause-execution g c = λ faithful kinds registry_of options plan moment given at are_trees are_outputs due.
    let F = g.F.Folder in
    let task = c.args.task.now in
    let start = c.args.folder.now in
    let now = c.forget.new.folder in
    let memory = moment.world.memory in
    let records = c.forget.ensures.exists faithful given.tears memory at.records (none_read (recalled memory task.path) true at.read) in
    let p = err_from_is_err_and c.from_residual.result c.from_residual.ensures.1 in
    at_err (λ (r : Result (Unit {0}) Fault). HasExecuted (setting_with kinds registry_of (F.device.may_leave start)) options plan task moment (report_of task r c.args.lines.now) (F.device.contents start) (F.device.failures now) (F.device.contents now))
    c.from_residual.result p.0 c.in_err-forget.field-0.0 p.1 p.2
    (forgetting_failed kinds registry_of (F.device.may_leave start) options plan task true moment (F.device.contents start) (F.device.failures start) c.args.changes c.requires.buildable.not_own c.requires.separate at due
    c.in_err-forget.field-0.0 c.args.lines.now (F.device.failures start) (F.device.failures now) (F.device.contents start) (F.device.contents now) c.requires.no_lines refl
    (omega arith) c.forget.ensures.requests.count refl (c.in_err-forget.ensures.err faithful) (removed_there c.forget.ensures.requests faithful)
    (subst (λ (r : Result (Unit {0}) Fault). IsForgotten task.path memory r (F.device.contents now).files) c.in_err-forget.was records))

pub returns-in_err-run-clause-execution : goal.returns-in_err-run-clause-execution
returns-in_err-run-clause-execution g c = λ faithful kinds registry_of options plan moment given at are_trees are_outputs due.
    let then_known = c.make_by_changes.ensures.requests.back faithful in
    let F = g.F.Folder in
    let task = c.args.task.now in
    let start = c.args.folder.now in
    let then = c.forget.new.folder in
    let now = c.make_by_changes.new.folder in
    let memory = moment.world.memory in
    let records = c.forget.ensures.exists then_known given.tears memory at.records (none_read (recalled memory task.path) true at.read) in
    let forgotten : HoldsRecords (F.device.contents then).files (forget memory task.path) =
    subst (λ (r : Result (Unit {0}) Fault). IsForgotten task.path memory r (F.device.contents then).files) c.in_ok-forget.was records in
    let gone : ChangesOnly (is_at (record_place task.path)) (F.device.contents start) (F.device.contents then) = removed_there c.forget.ensures.requests then_known in
    let goes = goes_on kinds registry_of (F.device.may_leave start) options plan task true moment (F.device.contents start) (F.device.failures start) c.args.changes c.requires.buildable.not_own c.requires.separate at due
    c.requires.buildable.in_order c.as_str-path.ensures.path c.requires.outputs_separate (F.device.contents then) gone c.args.inputs.trees c.args.outputs.observed are_trees are_outputs in
    let p = err_from_is_err_and c.from_residual-in_err-run.result c.from_residual-in_err-run.ensures.1 in
    at_err (λ (r : Result (Unit {0}) Fault). HasExecuted (setting_with kinds registry_of (F.device.may_leave start)) options plan task moment (report_of task r c.make_by_changes.new.lines) (F.device.contents start) (F.device.failures now) (F.device.contents now))
    c.from_residual-in_err-run.result p.0 c.in_err-run.field-0.0 p.1 p.2
    (running_failed kinds registry_of (F.device.may_leave start) options plan task true moment (F.device.contents start) (F.device.failures start) c.args.changes c.requires.buildable.not_own c.requires.separate at due
    (F.device.may_leave then) c.make_by_changes.new.lines (F.device.failures then) (F.device.contents then) (F.device.contents now) c.args.inputs.trees
    c.forget.ensures.requests.tearing c.forget.ensures.requests.count gone forgotten
    are_trees (changed_there c.make_by_changes.ensures.requests faithful)
    (changed_there (requests_then (taken_of task (record_taken task c.forget.ensures.requests)) (outputs_of task c.make_by_changes.ensures.requests)) faithful) c.in_err-run.field-0.0 (F.device.failures now) c.make_by_changes.ensures.requests.count
    (λ place e. c.make_by_changes.ensures.blamed place (c.in_err-run.was ∙ ap Err e))
    (all_fitting g.A.Actions.meanings kinds c.args.table.now task task.actions g.A.Actions.own_output given.agrees c.requires.buildable.ready)
    (c.in_err-run.ensures.err faithful kinds given.agrees _ goes))

pub returns-clause-execution : goal.returns-clause-execution
returns-clause-execution g c = λ faithful kinds registry_of options plan moment given at are_trees are_outputs due.
    let ran_known = c.remember.ensures.requests.back faithful in
    let then_known = c.make_by_changes.ensures.requests.back ran_known in
    let F = g.F.Folder in
    let task = c.args.task.now in
    let start = c.args.folder.now in
    let then = c.forget.new.folder in
    let ran = c.make_by_changes.new.folder in
    let now = c.remember.new.folder in
    let memory = moment.world.memory in
    let records = c.forget.ensures.exists then_known given.tears memory at.records (none_read (recalled memory task.path) true at.read) in
    let forgotten : HoldsRecords (F.device.contents then).files (forget memory task.path) =
    subst (λ (r : Result (Unit {0}) Fault). IsForgotten task.path memory r (F.device.contents then).files) c.in_ok-forget.was records in
    let gone : ChangesOnly (is_at (record_place task.path)) (F.device.contents start) (F.device.contents then) = removed_there c.forget.ensures.requests then_known in
    let goes = goes_on kinds registry_of (F.device.may_leave start) options plan task true moment (F.device.contents start) (F.device.failures start) c.args.changes c.requires.buildable.not_own c.requires.separate at due
    c.requires.buildable.in_order c.as_str-path.ensures.path c.requires.outputs_separate (F.device.contents then) gone c.args.inputs.trees c.args.outputs.observed are_trees are_outputs in
    let changed : ChangesOnly (is_of_execution task) (F.device.contents start) (F.device.contents ran) =
    changes_chain (is_of_execution task) (F.device.contents start) (F.device.contents then) (F.device.contents ran)
    (record_in_execution task (F.device.contents start) (F.device.contents then) gone)
    (outputs_in_execution task (F.device.contents then) (F.device.contents ran) (changed_there c.make_by_changes.ensures.requests ran_known)) in
    let ended = c.in_ok-run.ensures.ok ran_known kinds given.agrees _ goes in
    let exists : c.in_ok-run.run' ≡ run_now task c.args.inputs.prints.items (F.device.contents ran).files =
    record_exists kinds task c.args.inputs.trees c.args.inputs.prints.items (F.device.contents ran).files c.in_ok-run.run'
    (c.in_ok-run.ensures.made kinds given.agrees _ (F.device.contents then).files (g.met.F.Folder.sound then) (g.met.F.Folder.placed then) goes) c.requires.digests
    (λ held makes. made_exists kinds task c.args.inputs.trees c.args.changes (F.device.contents then).files c.make_by_changes.new.lines (F.device.contents ran).files held
    (g.met.F.Folder.sound then).in_order ended makes) in
    remembering kinds registry_of (F.device.may_leave start) options plan task true moment (F.device.contents start) (F.device.failures start) c.args.changes c.requires.buildable.not_own c.requires.separate at due
    (F.device.may_leave then) c.make_by_changes.new.lines (F.device.failures then) (F.device.contents then) (F.device.contents ran) c.args.inputs.trees
    c.forget.ensures.requests.tearing c.forget.ensures.requests.count gone forgotten
    are_trees (changed_there c.make_by_changes.ensures.requests ran_known) changed
    (g.met.F.Folder.sound then).in_order ended c.args.inputs.prints.items (F.device.failures ran) (F.device.failures now) (F.device.contents now)
    (c.requires.digests ∙ ap digests_in are_trees)
    c.make_by_changes.ensures.requests.count c.remember.ensures.requests.count
    (changes_chain (is_of_execution task) (F.device.contents start) (F.device.contents ran) (F.device.contents now) changed (record_in_execution task (F.device.contents ran) (F.device.contents now) (written_there _ c.remember.ensures.requests faithful)))
    (ap (λ (folder : Contents). folder.files) (outside_same task.path (F.device.contents ran) (F.device.contents now) (written_there _ c.remember.ensures.requests faithful)))
    c.remember.result
    (subst (λ (run : Record). IfErr c.remember.result (IsUnwritten task.path (Some (record_text task.path run)) (F.device.contents ran).files (F.device.failures ran) (F.device.failures now))) exists (c.remember.ensures.err faithful))
    c.remember.ensures.outputs
    (λ m entry existed of. c.remember.ensures.exists faithful (observed_later _ _ (SameTearing-chain _ _ _ c.forget.ensures.requests.tearing c.make_by_changes.ensures.requests.tearing) given.tears) m entry existed
    (subst (λ (run : Record). IsSaidOf run entry) (sym exists) of))

pub returns-in_err-forget-clause-ran : goal.returns-in_err-forget-clause-ran
returns-in_err-forget-clause-ran g c =
    let F = g.F.Folder in
    let p = err_from_is_err_and c.from_residual.result c.from_residual.ensures.1 in
    at_err (λ r. StageLed F.device (RunByChanges g.A.Actions.meanings c.args.table.now c.args.task.now c.args.inputs.trees c.args.changes c.args.outputs.observed) c.args.folder.now c.args.lines.now r c.forget.new.folder) c.from_residual.result p.0 c.in_err-forget.field-0.0 p.1 p.2
    (changes_kept F.device g.A.Actions.meanings c.args.table.now c.args.task.now c.args.inputs.trees c.args.changes c.args.outputs.observed c.args.folder.now c.forget.new.folder c.args.lines.now c.in_err-forget.field-0.0
    c.requires.no_lines c.in_err-forget.ensures.calls)

pub returns-in_err-run-clause-ran : goal.returns-in_err-run-clause-ran
returns-in_err-run-clause-ran g c =
    let F = g.F.Folder in
    let meanings = g.A.Actions.meanings in
    let rows = c.args.table.now in
    let task = c.args.task.now in
    let trees = c.args.inputs.trees in
    let changes = c.args.changes in
    let observed = c.args.outputs.observed in
    let p = err_from_is_err_and c.from_residual-in_err-run.result c.from_residual-in_err-run.ensures.1 in
    let led = c.in_err-run.ensures.calls in
    at_err (λ r. StageLed F.device (RunByChanges g.A.Actions.meanings c.args.table.now c.args.task.now c.args.inputs.trees c.args.changes c.args.outputs.observed) c.args.folder.now c.make_by_changes.new.lines r c.make_by_changes.new.folder) c.from_residual-in_err-run.result p.0 c.in_err-run.field-0.0 p.1 p.2
    (changes_on F.device meanings rows task trees changes observed c.args.folder.now c.forget.new.folder c.make_by_changes.new.folder c.make_by_changes.new.lines (Err c.in_err-run.field-0.0) c.in_ok-forget.ensures.calls
    (unmade F.device task (WritesChanges meanings rows task trees changes observed) (IsOfRunByChanges meanings rows task trees changes observed) c.forget.new.folder c.make_by_changes.new.folder c.make_by_changes.new.lines led.1
    c.in_err-run.field-0.0 (led.0, led.2, led.3) led.4))

pub returns-clause-ran : goal.returns-clause-ran
returns-clause-ran g c =
    let F = g.F.Folder in
    let meanings = g.A.Actions.meanings in
    let rows = c.args.table.now in
    let task = c.args.task.now in
    let trees = c.args.inputs.trees in
    let changes = c.args.changes in
    let observed = c.args.outputs.observed in
    let led = c.in_ok-run.ensures.calls in
    changes_on F.device meanings rows task trees changes observed c.args.folder.now c.forget.new.folder c.remember.new.folder c.make_by_changes.new.lines c.remember.result c.in_ok-forget.ensures.calls
    (made F.device task (WritesChanges meanings rows task trees changes observed) (IsOfRunByChanges meanings rows task trees changes observed) c.forget.new.folder c.make_by_changes.new.folder c.remember.new.folder
    c.make_by_changes.new.lines led.1 c.remember.result c.in_ok-run.run' (led.0, led.2, led.3) led.4 c.in_ok-run.ensures.made c.remember.ensures.calls)

pub returns-in_err-forget-clause-requests : goal.returns-in_err-forget-clause-requests
returns-in_err-forget-clause-requests g c = taken_of c.args.task.now (record_taken c.args.task.now c.forget.ensures.requests)

pub returns-in_err-run-clause-requests : goal.returns-in_err-run-clause-requests
returns-in_err-run-clause-requests g c =
    requests_then (taken_of c.args.task.now (record_taken c.args.task.now c.forget.ensures.requests)) (outputs_of c.args.task.now c.make_by_changes.ensures.requests)

pub returns-clause-requests : goal.returns-clause-requests
returns-clause-requests g c =
    requests_then (requests_then (taken_of c.args.task.now (record_taken c.args.task.now c.forget.ensures.requests)) (outputs_of c.args.task.now c.make_by_changes.ensures.requests))
    (record_of c.args.task.now _ c.remember.ensures.requests)
