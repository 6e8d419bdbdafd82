use Rattle.std.proofs.Common.{List, Some, IfErr, map, sym, ap, subst, ◌∙◌}
use Rattle.std.proofs.lemmas.Result.{err_from_is_err_and}
use Rattle.gb_folder.specs.Files.{Contents}
use Rattle.gb_history.specs.Record.{Prints}
use Rattle.gb_history.specs.declared.decide.Decision.{Decision}
use Rattle.gb_history.specs.declared.record.OutputRecord.{OutputRecord}
use Rattle.gb_semantics.specs.Tree.{listing_faults, trees_of}
use Rattle.gb_report.specs.declared.fault.Fault.{Fault}
use Rattle.gb_folder.proofs.Machine.{at_err}
use Rattle.gb_label.specs.Reading.{CannotRead, Read, digests_in, prints_read, records_with}
use Rattle.gb_label.specs.Deciding.{FollowsFrom, IsBasisIn, IsPresentOf, MayDecide}
use Rattle.gb_label.specs.declared.deciding.Basis.{Basis}
use Rattle.gb_label.proofs.Answering.{full_decided, record_decided}
use Rattle.gb_label.proofs.Current.{may_decide}
use Rattle.gb_label.proofs.Growth.{cannot_read, has_grown, ok_as}
use Rattle.gb_label.proofs.Recorded.{names_read, names_with, none_for, none_observed_for, read_for, observed_for, with_existing}
use Rattle.gb_label.proofs.deciding.by_record.Goals as goal

pub returns-in_ok-on-in-Ok-clause-based : goal.returns-in_ok-on-in-Ok-clause-based
returns-in_ok-on-in-Ok-clause-based g c = λ faithful known inputs.
    let task = c.args.task.now in
    let old : Contents = g.F.Folder.device.contents c.args.folder.now in
    let present = c.in_ok-on-in-Ok.on.present in
    subst (λ (os : List OutputRecord). IsPresentOf c.args.options task (digests_in (trees_of task old.files)) os present)
    (ap (λ (readings : List Read). records_with task.outputs (prints_read readings)) c.as_slice.ensures.value ∙ ap (records_with task.outputs) (c.in-Ok.ensures.prints faithful known)
    ∙ with_existing old.files task.outputs)
    (subst (λ (ins : List Prints). IsPresentOf c.args.options task ins (records_with task.outputs (prints_read c.as_slice.result.now)) present) inputs c.in_ok-on-in-Ok.ensures.present)

pub returns-in_ok-on-in-Ok-clause-may_decide : goal.returns-in_ok-on-in-Ok-clause-may_decide
returns-in_ok-on-in-Ok-clause-may_decide g c =
    let found = c.in_ok-on-in-Ok in
    let outputs = c.as_slice.result.now in
    may_decide c.args.options c.args.task.now c.args.run.now _ _ found.on.present found.on.decision
    found.ensures.present (names_with c.args.task.now.outputs (prints_read outputs) (names_read outputs ∙ ap (map (λ (reading : Read). reading.0)) c.as_slice.ensures.value ∙ c.in-Ok.ensures.read.named)) found.ensures.decides

pub returns-in_ok-on-in-Ok-clause-read : goal.returns-in_ok-on-in-Ok-clause-read
returns-in_ok-on-in-Ok-clause-read g c = read_for c.args.task.now c.in_ok-on-in-Ok.on.decision c.in-Ok.outputs.items c.in-Ok.ensures.read

pub returns-in_ok-on-in-Ok-clause-observed : goal.returns-in_ok-on-in-Ok-clause-observed
returns-in_ok-on-in-Ok-clause-observed g c = λ faithful known.
    observed_for c.args.task.now (g.F.Folder.device.contents c.args.folder.now).files c.in_ok-on-in-Ok.on.decision c.in-Ok.outputs.items (c.in-Ok.ensures.observed faithful known)

pub returns-in_ok-on-in-Ok-clause-answered : goal.returns-in_ok-on-in-Ok-clause-answered
returns-in_ok-on-in-Ok-clause-answered g c = λ first before known.
    let task = c.args.task.now in
    let inputs = c.args.inputs.now in
    let found = c.in_ok-on-in-Ok in
    record_decided g.F.Folder.device first c.read_outputs_now.new.folder c.args.options task c.args.run.now inputs found.on.decision c.in-Ok.outputs.items c.in-Ok.ensures.read (c.in-Ok.ensures.answered first before known) found.on.present
    (subst (λ (outputs : List Read). IsPresentOf c.args.options task (prints_read inputs) (records_with task.outputs (prints_read outputs)) found.on.present)
    c.as_slice.ensures.value found.ensures.present) found.ensures.decides

pub returns-in_ok-check_grown-in-Err-clause-based : goal.returns-in_ok-check_grown-in-Err-clause-based
returns-in_ok-check_grown-in-Err-clause-based g c = λ faithful known inputs.
    let task = c.args.task.now in
    let old : Contents = g.F.Folder.device.contents c.args.folder.now in
    ok_as c.in_full.result c.in_full.ensures.full (λ found full.
    subst (λ (b : Basis). IsBasisIn c.args.options task old b) (sym full.1)
    (has_grown task old _ _ c.in-Err.fault c.in_ok-check_grown-in-Err.ensures.ok (c.in-Err.ensures.err (c.in_full.ensures.reads.requests.back faithful) known)))

pub returns-in_ok-check_grown-in-Err-clause-goes_by : goal.returns-in_ok-check_grown-in-Err-clause-goes_by
returns-in_ok-check_grown-in-Err-clause-goes_by g c =
    ok_as c.in_full.result c.in_full.ensures.full (λ found full.
    subst (λ (b : Basis). FollowsFrom c.args.options c.args.task.now (Some c.args.run.now) found.decision b) (sym full.1) (full.0, c.requires.counts))

pub returns-in_err-check_grown-in-Err-clause-err : goal.returns-in_err-check_grown-in-Err-clause-err
returns-in_err-check_grown-in-Err-clause-err g c = λ faithful known.
    let task = c.args.task.now in
    let old : Contents = g.F.Folder.device.contents c.args.folder.now in
    let residual = c.from_residual-in_err-check_grown-in-Err in
    let p = err_from_is_err_and residual.result residual.ensures.1 in
    let reported = c.in_err-check_grown-in-Err.ensures.err in
    let Cannot : Fault → Type 0 = CannotRead (g.F.Folder.device.failures c.args.folder.now) (g.F.Folder.device.failures c.read_outputs_now.new.folder) (listing_faults task old) in
    at_err (λ r. IfErr r Cannot) residual.result p.0 c.in_err-check_grown-in-Err.field-0.0 p.1 p.2
    (subst Cannot (sym reported.0) (cannot_read task old _ _ c.in-Err.fault reported.1 (c.in-Err.ensures.err faithful known)))

pub returns-in_ok-check_grown-in-Err-clause-may_decide : goal.returns-in_ok-check_grown-in-Err-clause-may_decide
returns-in_ok-check_grown-in-Err-clause-may_decide g c =
    ok_as c.in_full.result c.in_full.ensures.full (λ found full.
    subst (λ (d : Decision). MayDecide c.args.options c.args.task.now d) (sym full.0) tt)

pub returns-in_ok-check_grown-in-Err-clause-read : goal.returns-in_ok-check_grown-in-Err-clause-read
returns-in_ok-check_grown-in-Err-clause-read g c =
    ok_as c.in_full.result c.in_full.ensures.full (λ found full. none_for c.args.task.now found.decision found.outputs.items full.0)

pub returns-in_ok-check_grown-in-Err-clause-observed : goal.returns-in_ok-check_grown-in-Err-clause-observed
returns-in_ok-check_grown-in-Err-clause-observed g c = λ faithful known.
    ok_as c.in_full.result c.in_full.ensures.full (λ found full. none_observed_for c.args.task.now (g.F.Folder.device.contents c.args.folder.now).files found.decision found.outputs.items full.0)

pub returns-in_ok-check_grown-in-Err-clause-answered : goal.returns-in_ok-check_grown-in-Err-clause-answered
returns-in_ok-check_grown-in-Err-clause-answered g c = λ first before known.
    ok_as c.in_full.result c.in_full.ensures.full (λ found full.
    full_decided g.F.Folder.device first c.in_full.new.folder c.args.options c.args.task.now (Some c.args.run.now) c.args.inputs.now found.decision found.outputs.items full.0)
