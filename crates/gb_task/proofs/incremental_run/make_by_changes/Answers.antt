use Rattle.std.proofs.Common.{List, Err, IfErr, Ok, Result, inl, inr, map, refl, ap, ◌∙◌}
use Rattle.std.proofs.lemmas.Result.{err_from_is_err_and}
use Rattle.gb_action.specs.Files.{Trees}
use Rattle.gb_history.specs.Record.{Prints, Record, prints_in}
use Rattle.gb_history.specs.declared.record.OutputRecord.{OutputRecord}
use Rattle.gb_run.specs.AskingChanges.{GoesOn}
use Rattle.gb_run.specs.Failing.{ByChanges, Fails}
use Rattle.gb_label.proofs.Recorded.{names_with}
use Rattle.gb_semantics.specs.Headline.{Agrees}
use Rattle.gb_semantics.specs.Kinds.{Kinds}
use Rattle.gb_semantics.specs.Made.{rest_of}
use Rattle.gb_report.specs.declared.fault.Fault.{Fault}
use Rattle.gb_report.specs.declared.fault.Fault.TheVariants as faults
use Rattle.gb_run.specs.RunInput.{run_input}
use Rattle.gb_folder.proofs.Machine.{at_err}
use Rattle.gb_run.proofs.Writer.{writer_of}
use Rattle.gb_task.proofs.Cut.{cut_by_changes}
use Rattle.gb_task.proofs.Given.{named_digests}
use Rattle.gb_task.proofs.Recorded.{record_is}
use Rattle.gb_folder.specs.Calls.{Call}
use Rattle.gb_folder.specs.Device.{Leads}
use Rattle.gb_run.specs.Doing.{Ending}
use Rattle.gb_run.specs.Work.{ending}
use Rattle.gb_task.specs.Stages.{HasMade, WritesChanges}
use Rattle.gb_task.proofs.incremental_run.make_by_changes.Goals as goal

pub returns-in_err-outputs-clause-err : goal.returns-in_err-outputs-clause-err
returns-in_err-outputs-clause-err g c = λ faithful.
    let F = g.F.Folder in
    let task = c.args.task.now in
    let start = c.args.folder.now in
    let now = c.run_by_changes.new.folder in
    let p = err_from_is_err_and c.from_residual-in_err-outputs.result c.from_residual-in_err-outputs.ensures.1 in
    let IsFault : Fault → Type 0 = λ fault. (kinds : Kinds) → Agrees g.A.Actions.meanings c.args.table.now kinds → (old : Trees)
    → GoesOn kinds task old c.args.inputs.trees c.args.changes c.args.outputs.observed (F.device.contents start).files
    → Fails (run_input kinds task c.args.inputs.trees c.args.changes (rest_of task (F.device.contents start).files)) (ByChanges (F.device.contents start).files) (F.device.may_leave start) (F.device.failures start) fault c.run_by_changes.new.lines (F.device.failures now) (F.device.contents now).files in
    at_err (λ r. IfErr r IsFault) c.from_residual-in_err-outputs.result p.0 faults.OutOfMemory p.1 p.2 (λ kinds agrees old goes.
    let writer = writer_of kinds task.actions goes.one_writer in
    cut_by_changes kinds (run_input kinds task c.args.inputs.trees c.args.changes (rest_of task (F.device.contents start).files)) (F.device.contents start).files (F.device.may_leave start) (F.device.failures start) (F.device.failures now)
    c.run_by_changes.new.lines (F.device.contents now).files refl writer.0 writer.1 (c.in_ok-made.ensures.ok faithful kinds agrees old goes))

pub record_of-requires-clause-inputs : goal.record_of-requires-clause-inputs
record_of-requires-clause-inputs g c = named_digests c.args.inputs.prints.items c.args.inputs.trees _ c.requires.digests c.requires.named

pub record_of-requires-clause-outputs : goal.record_of-requires-clause-outputs
record_of-requires-clause-outputs g c =
    ap (λ (os : List OutputRecord). map (λ (found : Prints). found.0) (prints_in os)) c.in_ok-outputs.ensures
    ∙ names_with c.args.task.now.outputs c.in_ok-made.made.items c.in_ok-made.ensures.named

pub returns-in_err-record_of-clause-err : goal.returns-in_err-record_of-clause-err
returns-in_err-record_of-clause-err g c = λ faithful.
    let F = g.F.Folder in
    let task = c.args.task.now in
    let start = c.args.folder.now in
    let now = c.run_by_changes.new.folder in
    let p = err_from_is_err_and c.from_residual-in_err-record_of.result c.from_residual-in_err-record_of.ensures.1 in
    let IsFault : Fault → Type 0 = λ fault. (kinds : Kinds) → Agrees g.A.Actions.meanings c.args.table.now kinds → (old : Trees)
    → GoesOn kinds task old c.args.inputs.trees c.args.changes c.args.outputs.observed (F.device.contents start).files
    → Fails (run_input kinds task c.args.inputs.trees c.args.changes (rest_of task (F.device.contents start).files)) (ByChanges (F.device.contents start).files) (F.device.may_leave start) (F.device.failures start) fault c.run_by_changes.new.lines (F.device.failures now) (F.device.contents now).files in
    at_err (λ r. IfErr r IsFault) c.from_residual-in_err-record_of.result p.0 faults.OutOfMemory p.1 p.2 (λ kinds agrees old goes.
    let writer = writer_of kinds task.actions goes.one_writer in
    cut_by_changes kinds (run_input kinds task c.args.inputs.trees c.args.changes (rest_of task (F.device.contents start).files)) (F.device.contents start).files (F.device.may_leave start) (F.device.failures start) (F.device.failures now)
    c.run_by_changes.new.lines (F.device.contents now).files refl writer.0 writer.1 (c.in_ok-made.ensures.ok faithful kinds agrees old goes))

pub returns-clause-made : goal.returns-clause-made
returns-clause-made g c = λ kinds agrees old existing is_folder placed goes.
    let made = c.in_ok-made.ensures.made kinds agrees old existing is_folder.in_order placed goes in
    record_is kinds c.args.task.now c.args.inputs.trees c.args.inputs.prints.items c.in_ok-made.made.items c.in_ok-outputs.outputs.items c.in_ok-record_of.field-0
    c.in_ok-record_of.ensures c.requires.digests c.in_ok-outputs.ensures made.0 made.1 made.2

pub returns-in_err-made-clause-err : goal.returns-in_err-made-clause-err
returns-in_err-made-clause-err g c = λ faithful.
    let F = g.F.Folder in
    let task = c.args.task.now in
    let start = c.args.folder.now in
    let now = c.run_by_changes.new.folder in
    let p = err_from_is_err_and c.from_residual.result c.from_residual.ensures.1 in
    let IsFault : Fault → Type 0 = λ fault. (kinds : Kinds) → Agrees g.A.Actions.meanings c.args.table.now kinds → (old : Trees)
    → GoesOn kinds task old c.args.inputs.trees c.args.changes c.args.outputs.observed (F.device.contents start).files
    → Fails (run_input kinds task c.args.inputs.trees c.args.changes (rest_of task (F.device.contents start).files)) (ByChanges (F.device.contents start).files) (F.device.may_leave start) (F.device.failures start) fault c.run_by_changes.new.lines (F.device.failures now) (F.device.contents now).files in
    at_err (λ r. IfErr r IsFault) c.from_residual.result p.0 c.in_err-made.field-0.0 p.1 p.2 (c.in_err-made.ensures.err faithful)

pub returns-in_err-made-clause-calls : goal.returns-in_err-made-clause-calls
returns-in_err-made-clause-calls g c =
    let F = g.F.Folder in
    let p = err_from_is_err_and c.from_residual.result c.from_residual.ensures.1 in
    let led = c.in_err-made.ensures.calls in
    at_err (λ (r : Result Record Fault). (calls : List Call) × (ran : Ending) × Leads F.device c.args.folder.now calls c.run_by_changes.new.folder
    × WritesChanges g.A.Actions.meanings c.args.table.now c.args.task.now c.args.inputs.trees c.args.changes c.args.outputs.observed calls c.run_by_changes.new.lines ran × HasMade ran (ending r)) c.from_residual.result p.0 c.in_err-made.field-0.0 p.1 p.2
    (led.0, Err c.in_err-made.field-0.0, led.1, (led.2, led.3), refl)

pub returns-in_err-outputs-clause-calls : goal.returns-in_err-outputs-clause-calls
returns-in_err-outputs-clause-calls g c =
    let F = g.F.Folder in
    let p = err_from_is_err_and c.from_residual-in_err-outputs.result c.from_residual-in_err-outputs.ensures.1 in
    let led = c.in_ok-made.ensures.calls in
    at_err (λ (r : Result Record Fault). (calls : List Call) × (ran : Ending) × Leads F.device c.args.folder.now calls c.run_by_changes.new.folder
    × WritesChanges g.A.Actions.meanings c.args.table.now c.args.task.now c.args.inputs.trees c.args.changes c.args.outputs.observed calls c.run_by_changes.new.lines ran × HasMade ran (ending r)) c.from_residual-in_err-outputs.result p.0 faults.OutOfMemory p.1 p.2
    (led.0, Ok tt, led.1, (led.2, led.3), inr refl)

pub returns-in_err-record_of-clause-calls : goal.returns-in_err-record_of-clause-calls
returns-in_err-record_of-clause-calls g c =
    let F = g.F.Folder in
    let p = err_from_is_err_and c.from_residual-in_err-record_of.result c.from_residual-in_err-record_of.ensures.1 in
    let led = c.in_ok-made.ensures.calls in
    at_err (λ (r : Result Record Fault). (calls : List Call) × (ran : Ending) × Leads F.device c.args.folder.now calls c.run_by_changes.new.folder
    × WritesChanges g.A.Actions.meanings c.args.table.now c.args.task.now c.args.inputs.trees c.args.changes c.args.outputs.observed calls c.run_by_changes.new.lines ran × HasMade ran (ending r)) c.from_residual-in_err-record_of.result p.0 faults.OutOfMemory p.1 p.2
    (led.0, Ok tt, led.1, (led.2, led.3), inr refl)

pub returns-clause-calls : goal.returns-clause-calls
returns-clause-calls g c =
    let led = c.in_ok-made.ensures.calls in
    (led.0, Ok tt, led.1, (led.2, led.3), inl refl)
