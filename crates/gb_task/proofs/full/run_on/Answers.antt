use Rattle.std.proofs.Common.{◌≡◌, List, Some, Result, Err, IfErr, length, refl, rules, arith, sym, ap, subst, ◌∙◌, inl}
use Rattle.std.proofs.lemmas.Result.{err_from_is_err_and}
use Rattle.gb_action.specs.Changes.{Changes}
use Rattle.gb_folder.specs.Files.{Contents, Files}
use Rattle.gb_folder.proofs.Changes.{SameTearing-chain}
use Rattle.gb_history.specs.Record.{Record}
use Rattle.gb_history.specs.Text.{record_text}
use Rattle.gb_semantics.specs.Memory.{recalled}
use Rattle.gb_records.specs.Said.{IsSaidOf}
use Rattle.gb_report.specs.declared.fault.Fault.{Fault}
use Rattle.gb_report.specs.declared.fault.Fault.TheVariants as faults
use Rattle.gb_run.specs.RunInput.{EndsWell, run_input}
use Rattle.gb_run.proofs.Existed.{made_exists}
use Rattle.gb_folder.specs.Changes.{ChangesOnly}
use Rattle.gb_folder.proofs.Machine.{at_err, changes_chain}
use Rattle.gb_label.specs.Reading.{digests_in}
use Rattle.gb_task.specs.Clearing.{HasCleared, IsCleared}
use Rattle.gb_task.specs.Keeping.{IsUnwritten, run_now}
use Rattle.gb_task.specs.Executing.{HasExecuted, is_of_execution, report_of, setting_with}
use Rattle.gb_task.specs.Reading.{added_of}
use Rattle.gb_folder.proofs.Elsewhere.{changed_there, taken_there, written_there}
use Rattle.gb_task.proofs.Added.{all_of}
use Rattle.gb_task.proofs.Cleared.{outputs_in_execution, record_in_execution}
use Rattle.gb_task.proofs.Given.{as_many, none_read}
use Rattle.gb_task.proofs.Parts.{outside_same}
use Rattle.gb_task.proofs.Recorded.{record_exists, observed_later}
use Rattle.gb_task.proofs.Whole.{clearing_failed, reading_failed, remembering, running_failed}
use Rattle.gb_task.specs.Stages.{FullRun, IsOfFullRun, WritesAll, WritesGiven}
use Rattle.gb_task.proofs.Stages.{StageLed, full_early, full_on, full_uncleared, made, unmade}
use Rattle.gb_folder.proofs.Asked.{requests_then}
use Rattle.gb_task.proofs.Places.{outputs_of, record_of, taken_of}
use Rattle.gb_task.proofs.full.run_on.Goals as goal

pub all_added-requires : goal.all_added-requires
all_added-requires g c =
    as_many c.args.task.now.files c.args.inputs.trees c.args.inputs.prints.items c.requires.digests c.requires.named ∙ ap length (sym c.as_slice.ensures.value)

pub returns-in_err-changes-clause-execution : goal.returns-in_err-changes-clause-execution
returns-in_err-changes-clause-execution g c = λ faithful kinds registry_of options plan moment given at are_trees due.
    let F = g.F.Folder in
    let task = c.args.task.now in
    let start = c.args.folder.now in
    let p = err_from_is_err_and c.from_residual.result c.from_residual.ensures.1 in
    at_err (λ (r : Result (Unit {0}) Fault). HasExecuted (setting_with kinds registry_of (F.device.may_leave start)) options plan task moment (report_of task r c.args.lines.now) (F.device.contents start) (F.device.failures start) (F.device.contents start))
    c.from_residual.result p.0 faults.OutOfMemory p.1 p.2
    (reading_failed kinds registry_of (F.device.may_leave start) options plan task c.args.was_read moment (F.device.contents start) (F.device.failures start) c.requires.buildable.not_own c.requires.separate at due
    faults.OutOfMemory c.args.lines.now (F.device.failures start) (F.device.contents start) c.requires.no_lines refl (inl refl) (λ place e. absurd (let d = e in (cc))))

pub returns-in_err-clear-clause-execution : goal.returns-in_err-clear-clause-execution
returns-in_err-clear-clause-execution g c = λ faithful kinds registry_of options plan moment given at are_trees due.
    let F = g.F.Folder in
    let task = c.args.task.now in
    let start = c.args.folder.now in
    let now = c.clear.new.folder in
    let memory = moment.world.memory in
    let cleared = c.clear.ensures.cleared faithful given.tears memory at.records (none_read (recalled memory task.path) c.args.was_read at.read) in
    let p = err_from_is_err_and c.from_residual-in_err-clear.result c.from_residual-in_err-clear.ensures.1 in
    at_err (λ (r : Result (Unit {0}) Fault). HasExecuted (setting_with kinds registry_of (F.device.may_leave start)) options plan task moment (report_of task r c.args.lines.now) (F.device.contents start) (F.device.failures now) (F.device.contents now))
    c.from_residual-in_err-clear.result p.0 c.in_err-clear.field-0.0 p.1 p.2
    (clearing_failed kinds registry_of (F.device.may_leave start) options plan task c.args.was_read moment (F.device.contents start) (F.device.failures start) c.requires.buildable.not_own c.requires.separate at due
    (F.device.may_leave start) c.in_err-clear.field-0.0 c.args.lines.now (F.device.failures start) (F.device.failures now) (F.device.contents start) (F.device.contents now) c.requires.no_lines refl
    (search rules) (omega arith) c.clear.ensures.requests.count
    (subst (λ (r : Result (Unit {0}) Fault). HasCleared task c.args.was_read memory (F.device.may_leave start) (F.device.failures start) (F.device.contents start) r (F.device.failures now) (F.device.contents now)) c.in_err-clear.was cleared)
    (taken_there c.clear.ensures.requests faithful)
    (λ place e. c.clear.ensures.blamed place (c.in_err-clear.was ∙ ap Err e)))

pub returns-in_err-run-clause-execution : goal.returns-in_err-run-clause-execution
returns-in_err-run-clause-execution g c = λ faithful kinds registry_of options plan moment given at are_trees due.
    let F = g.F.Folder in
    let task = c.args.task.now in
    let start = c.args.folder.now in
    let then = c.clear.new.folder in
    let now = c.make_in_full.new.folder in
    let memory = moment.world.memory in
    let cleared = c.clear.ensures.cleared (c.make_in_full.ensures.requests.back faithful) given.tears memory at.records (none_read (recalled memory task.path) c.args.was_read at.read) in
    let is_cleared : IsCleared task memory (F.device.contents start) (F.device.contents then) =
    subst (λ (r : Result (Unit {0}) Fault). HasCleared task c.args.was_read memory (F.device.may_leave start) (F.device.failures start) (F.device.contents start) r (F.device.failures then) (F.device.contents then)) c.in_ok-clear.was cleared in
    let p = err_from_is_err_and c.from_residual-in_err-run.result c.from_residual-in_err-run.ensures.1 in
    at_err (λ (r : Result (Unit {0}) Fault). HasExecuted (setting_with kinds registry_of (F.device.may_leave start)) options plan task moment (report_of task r c.make_in_full.new.lines) (F.device.contents start) (F.device.failures now) (F.device.contents now))
    c.from_residual-in_err-run.result p.0 c.in_err-run.field-0.0 p.1 p.2
    (running_failed kinds registry_of (F.device.may_leave start) options plan task c.args.was_read moment (F.device.contents start) (F.device.failures start) c.requires.buildable.not_own c.requires.separate at due
    (F.device.may_leave then) c.make_in_full.new.lines (F.device.failures then) (F.device.contents then) (F.device.contents now) c.args.inputs.trees c.in_ok-changes.changes
    c.clear.ensures.requests.tearing c.clear.ensures.requests.count is_cleared
    are_trees (c.in_ok-changes.ensures c.args.inputs.trees (c.as_slice.ensures.value ∙ c.requires.digests) ∙ ap (added_of task.files) are_trees ∙ all_of (F.device.contents start).files task.files) (changed_there c.make_in_full.ensures.requests faithful)
    (changed_there (requests_then (taken_of task c.clear.ensures.requests) (outputs_of task c.make_in_full.ensures.requests)) faithful) c.in_err-run.field-0.0 (F.device.failures now) c.make_in_full.ensures.requests.count
    (λ place e. c.make_in_full.ensures.blamed place (c.in_err-run.was ∙ ap Err e)) (c.in_err-run.ensures.err faithful kinds given.agrees))

pub returns-clause-execution : goal.returns-clause-execution
returns-clause-execution g c = λ faithful kinds registry_of options plan moment given at are_trees due.
    let ran_known = c.remember.ensures.requests.back faithful in
    let then_known = c.make_in_full.ensures.requests.back ran_known in
    let F = g.F.Folder in
    let task = c.args.task.now in
    let start = c.args.folder.now in
    let then = c.clear.new.folder in
    let ran = c.make_in_full.new.folder in
    let now = c.remember.new.folder in
    let memory = moment.world.memory in
    let cleared = c.clear.ensures.cleared then_known given.tears memory at.records (none_read (recalled memory task.path) c.args.was_read at.read) in
    let is_cleared : IsCleared task memory (F.device.contents start) (F.device.contents then) =
    subst (λ (r : Result (Unit {0}) Fault). HasCleared task c.args.was_read memory (F.device.may_leave start) (F.device.failures start) (F.device.contents start) r (F.device.failures then) (F.device.contents then)) c.in_ok-clear.was cleared in
    let changed : ChangesOnly (is_of_execution task) (F.device.contents start) (F.device.contents ran) =
    changes_chain (is_of_execution task) (F.device.contents start) (F.device.contents then) (F.device.contents ran)
    (taken_there c.clear.ensures.requests then_known)
    (outputs_in_execution task (F.device.contents then) (F.device.contents ran) (changed_there c.make_in_full.ensures.requests ran_known)) in
    let reported = c.in_ok-changes.ensures c.args.inputs.trees (c.as_slice.ensures.value ∙ c.requires.digests) ∙ ap (added_of task.files) are_trees ∙ all_of (F.device.contents start).files task.files in
    let ended = c.in_ok-run.ensures.ok ran_known kinds given.agrees in
    let exists : c.in_ok-run.run' ≡ run_now task c.args.inputs.prints.items (F.device.contents ran).files =
    record_exists kinds task c.args.inputs.trees c.args.inputs.prints.items (F.device.contents ran).files c.in_ok-run.run' (c.in_ok-run.ensures.made kinds given.agrees) c.requires.digests
    (λ held makes. made_exists kinds task c.args.inputs.trees c.in_ok-changes.changes is_cleared.taken.files c.make_in_full.new.lines (F.device.contents ran).files held is_cleared.is_folder.in_order
    (subst (λ (rest : Files). EndsWell (run_input kinds task c.args.inputs.trees c.in_ok-changes.changes rest) c.make_in_full.new.lines (F.device.contents ran).files) is_cleared.emptied ended) makes) in
    remembering kinds registry_of (F.device.may_leave start) options plan task c.args.was_read moment (F.device.contents start) (F.device.failures start) c.requires.buildable.not_own c.requires.separate at due
    (F.device.may_leave then) c.make_in_full.new.lines (F.device.failures then) (F.device.contents then) (F.device.contents ran) c.args.inputs.trees c.in_ok-changes.changes
    c.clear.ensures.requests.tearing c.clear.ensures.requests.count is_cleared
    are_trees reported (changed_there c.make_in_full.ensures.requests ran_known) changed
    ended c.args.inputs.prints.items (F.device.failures ran) (F.device.failures now) (F.device.contents now)
    (c.requires.digests ∙ ap digests_in are_trees)
    c.make_in_full.ensures.requests.count c.remember.ensures.requests.count
    (changes_chain (is_of_execution task) (F.device.contents start) (F.device.contents ran) (F.device.contents now) changed (record_in_execution task (F.device.contents ran) (F.device.contents now) (written_there _ c.remember.ensures.requests faithful)))
    (ap (λ (folder : Contents). folder.files) (outside_same task.path (F.device.contents ran) (F.device.contents now) (written_there _ c.remember.ensures.requests faithful)))
    c.remember.result
    (subst (λ (run : Record). IfErr c.remember.result (IsUnwritten task.path (Some (record_text task.path run)) (F.device.contents ran).files (F.device.failures ran) (F.device.failures now))) exists (c.remember.ensures.err faithful))
    c.remember.ensures.outputs
    (λ m entry existed of. c.remember.ensures.exists faithful (observed_later _ _ (SameTearing-chain _ _ _ c.clear.ensures.requests.tearing c.make_in_full.ensures.requests.tearing) given.tears) m entry existed
    (subst (λ (run : Record). IsSaidOf run entry) (sym exists) of))

pub returns-in_err-changes-clause-ran : goal.returns-in_err-changes-clause-ran
returns-in_err-changes-clause-ran g c =
    let F = g.F.Folder in
    let p = err_from_is_err_and c.from_residual.result c.from_residual.ensures.1 in
    at_err (λ r. StageLed F.device (FullRun g.A.Actions.meanings c.args.table.now c.args.task.now c.args.inputs.trees c.args.was_read) c.args.folder.now c.args.lines.now r c.args.folder.now) c.from_residual.result p.0 faults.OutOfMemory p.1 p.2
    (full_early F.device g.A.Actions.meanings c.args.table.now c.args.task.now c.args.inputs.trees c.args.was_read c.args.folder.now c.args.lines.now c.requires.no_lines)

pub returns-in_err-clear-clause-ran : goal.returns-in_err-clear-clause-ran
returns-in_err-clear-clause-ran g c =
    let F = g.F.Folder in
    let p = err_from_is_err_and c.from_residual-in_err-clear.result c.from_residual-in_err-clear.ensures.1 in
    at_err (λ r. StageLed F.device (FullRun g.A.Actions.meanings c.args.table.now c.args.task.now c.args.inputs.trees c.args.was_read) c.args.folder.now c.args.lines.now r c.clear.new.folder) c.from_residual-in_err-clear.result p.0 c.in_err-clear.field-0.0 p.1 p.2
    (full_uncleared F.device g.A.Actions.meanings c.args.table.now c.args.task.now c.args.inputs.trees c.args.was_read c.args.folder.now c.clear.new.folder c.args.lines.now c.in_err-clear.field-0.0 c.requires.no_lines
    c.in_err-clear.ensures.calls)

pub returns-in_err-run-clause-ran : goal.returns-in_err-run-clause-ran
returns-in_err-run-clause-ran g c =
    let F = g.F.Folder in
    let meanings = g.A.Actions.meanings in
    let rows = c.args.table.now in
    let task = c.args.task.now in
    let trees = c.args.inputs.trees in
    let p = err_from_is_err_and c.from_residual-in_err-run.result c.from_residual-in_err-run.ensures.1 in
    let led = c.in_err-run.ensures.calls in
    let added = c.in_ok-changes.ensures trees (c.as_slice.ensures.value ∙ c.requires.digests) in
    at_err (λ r. StageLed F.device (FullRun g.A.Actions.meanings c.args.table.now c.args.task.now c.args.inputs.trees c.args.was_read) c.args.folder.now c.make_in_full.new.lines r c.make_in_full.new.folder) c.from_residual-in_err-run.result p.0 c.in_err-run.field-0.0 p.1 p.2
    (full_on F.device meanings rows task trees c.args.was_read c.args.folder.now c.clear.new.folder c.make_in_full.new.folder c.make_in_full.new.lines (Err c.in_err-run.field-0.0) c.in_ok-clear.ensures.calls
    (unmade F.device task (WritesAll meanings rows task trees) (IsOfFullRun meanings rows task trees) c.clear.new.folder c.make_in_full.new.folder c.make_in_full.new.lines led.1 c.in_err-run.field-0.0
    (led.0, led.2, subst (λ (changes : List Changes). WritesGiven meanings rows task trees changes led.0 c.make_in_full.new.lines led.1) added led.3) led.4))

pub returns-clause-ran : goal.returns-clause-ran
returns-clause-ran g c =
    let F = g.F.Folder in
    let meanings = g.A.Actions.meanings in
    let rows = c.args.table.now in
    let task = c.args.task.now in
    let trees = c.args.inputs.trees in
    let led = c.in_ok-run.ensures.calls in
    let added = c.in_ok-changes.ensures trees (c.as_slice.ensures.value ∙ c.requires.digests) in
    full_on F.device meanings rows task trees c.args.was_read c.args.folder.now c.clear.new.folder c.remember.new.folder c.make_in_full.new.lines c.remember.result c.in_ok-clear.ensures.calls
    (made F.device task (WritesAll meanings rows task trees) (IsOfFullRun meanings rows task trees) c.clear.new.folder c.make_in_full.new.folder c.remember.new.folder c.make_in_full.new.lines led.1 c.remember.result c.in_ok-run.run'
    (led.0, led.2, subst (λ (changes : List Changes). WritesGiven meanings rows task trees changes led.0 c.make_in_full.new.lines led.1) added led.3) led.4 c.in_ok-run.ensures.made c.remember.ensures.calls)

pub returns-in_err-clear-clause-requests : goal.returns-in_err-clear-clause-requests
returns-in_err-clear-clause-requests g c = taken_of c.args.task.now c.clear.ensures.requests

pub returns-in_err-run-clause-requests : goal.returns-in_err-run-clause-requests
returns-in_err-run-clause-requests g c = requests_then (taken_of c.args.task.now c.clear.ensures.requests) (outputs_of c.args.task.now c.make_in_full.ensures.requests)

pub returns-clause-requests : goal.returns-clause-requests
returns-clause-requests g c =
    requests_then (requests_then (taken_of c.args.task.now c.clear.ensures.requests) (outputs_of c.args.task.now c.make_in_full.ensures.requests))
    (record_of c.args.task.now _ c.remember.ensures.requests)
