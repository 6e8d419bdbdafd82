use Rattle.std.proofs.Common.{◌≡◌, ℕ, [], List, Ok, Err, Result, IsTrue, IfErr, IfOk, OnOk, map, refl, sym, subst, ◌∙◌, inl}
use Rattle.std.proofs.lemmas.Result.{err_from_is_err_and}
use Rattle.std.specs.Global.{Global}
use Rattle.std.specs.FinMap.Entries.{is_sorted}
use Rattle.std.specs.List.{AllByRecursion}
use Rattle.gb_core.specs.Lists.{byte_order}
use Rattle.std.specs.declared.vec.Vec.{Vec}
use Rattle.std.specs.Result.{result_err}
use Rattle.gb_folder.specs.Calls.{Call, changes_at}
use Rattle.gb_folder.specs.Device.{Leads}
use Rattle.gb_folder.specs.Files.{Files, are_placed}
use Rattle.gb_folder.proofs.Leading.{answered_all, requests_of, count_of}
use Rattle.gb_report.specs.declared.fault.Fault.{Fault}
use Rattle.gb_report.specs.declared.fault.Fault.TheVariants as faults
use Rattle.gb_action.specs.Files.{Trees}
use Rattle.gb_plan.specs.Task.{Text, is_output_of}
use Rattle.gb_plan.specs.declared.task.Output.{Output}
use Rattle.gb_folder.proofs.Machine.{at_err}
use Rattle.gb_semantics.specs.Headline.{Agrees}
use Rattle.gb_semantics.specs.Kinds.{Kinds}
use Rattle.gb_semantics.specs.Made.{made_of, rest_of}
use Rattle.gb_run.specs.RunInput.{EndsWell, run_input}
use Rattle.gb_run.specs.Digests.{prints_at}
use Rattle.gb_run.specs.Failing.{ByChanges, Fails}
use Rattle.gb_run.specs.AskingChanges.{GoesOn}
use Rattle.gb_run.specs.Work.{AreAtOutputs, DoesParts, ending, or_made}
use Rattle.gb_run.specs.WorkByChanges.{RunsByChanges, increment_of}
use Rattle.gb_run.specs.Worked.{AreStepsAt, part_held}
use Rattle.gb_run.specs.declared.work.Part.{Part}
use Rattle.gb_run.proofs.Composed.{Ends}
use Rattle.gb_run.proofs.Ran.{blamed_parts_at, blamed_parts_for, device_alone, ended_badly, ended_well, if_made, parts_so, permitted_parts, runs_by}
use Rattle.gb_run.proofs.Fitting.{all_fitting}
use Rattle.gb_run.proofs.Going.{fails_early}
use Rattle.gb_run.proofs.RanBy.{done_work_ends}
use Rattle.gb_run.proofs.incremental_work.run_by_changes.Goals as goal

-- what holds of a result holds of one that is the same
on_ok : {Y : Type 0} (X : Type 0) (r s : Result Y Fault) → r ≡ s → OnOk s X → OnOk r X
on_ok X r s same is = subst (λ t. OnOk t X) (sym same) is

if_err : {Y : Type 0} (P : Fault → Type 0) (r s : Result Y Fault) → r ≡ s → IfErr s P → IfErr r P
if_err P r s same is = subst (λ t. IfErr t P) (sym same) is

-- what holds of a result for all kinds of actions
for_all : {Y : Type 0} (Given : Kinds → Type 0) (P : Kinds → Type 0) (r : Result Y Fault) → ((kinds : Kinds) → Given kinds → OnOk r (P kinds)) → OnOk r ((kinds : Kinds) → Given kinds → P kinds)
for_all Given P (Ok y) is = is
for_all Given P (Err fault) is = tt

for_each : {Y : Type 0} (Given : Kinds → Type 0) (P : Kinds → Fault → Type 0) (r : Result Y Fault) → ((kinds : Kinds) → Given kinds → IfErr r (P kinds)) → IfErr r (λ fault. (kinds : Kinds) → Given kinds → P kinds fault)
for_each Given P (Ok y) is = tt
for_each Given P (Err fault) is = is

for_old : {Y : Type 0} (Given : Trees → Type 0) (P : Type 0) (r : Result Y Fault) → ((old : Trees) → Given old → OnOk r P) → OnOk r ((old : Trees) → Given old → P)
for_old Given P (Ok y) is = is
for_old Given P (Err fault) is = tt

for_each_old : {Y : Type 0} (Given : Trees → Type 0) (P : Fault → Type 0) (r : Result Y Fault) → ((old : Trees) → Given old → IfErr r P) → IfErr r (λ fault. (old : Trees) → Given old → P fault)
for_each_old Given P (Ok y) is = tt
for_each_old Given P (Err fault) is = is

pub returns-in_err-parts-clause-calls : goal.returns-in_err-parts-clause-calls
returns-in_err-parts-clause-calls g c =
    let F = g.F.Folder in
    let folder = c.args.folder.now in
    let p = err_from_is_err_and c.from_residual.result c.from_residual.ensures.1 in
    let Made : Type 0 = Vec (List ℕ × List (List ℕ × List ℕ)) Global in
    let IsDone : Result Made Fault → Type 0 = λ result. (calls : List Call) × Leads F.device folder calls folder × AreAtOutputs c.args.task.now calls
    × ((kinds : Kinds) → Agrees g.A.Actions.meanings c.args.table.now kinds → RunsByChanges (increment_of kinds c.args.task.now c.args.files c.args.changes c.args.outputs) calls c.args.lines.now (ending result)) in
    at_err IsDone c.from_residual.result p.0 faults.OutOfMemory p.1 p.2 ([], refl, tt, λ kinds agrees. inl (refl, c.requires.no_lines, refl))

pub returns-in_err-parts-clause-err : goal.returns-in_err-parts-clause-err
returns-in_err-parts-clause-err g c = λ faithful.
    let F = g.F.Folder in
    let folder = c.args.folder.now in
    let task = c.args.task.now in
    let p = err_from_is_err_and c.from_residual.result c.from_residual.ensures.1 in
    let IsFault : Fault → Type 0 = λ fault. (kinds : Kinds) → Agrees g.A.Actions.meanings c.args.table.now kinds → (old : Trees)
    → GoesOn kinds task old c.args.files c.args.changes c.args.outputs (F.device.contents folder).files
    → Fails (run_input kinds task c.args.files c.args.changes (rest_of task (F.device.contents folder).files)) (ByChanges (F.device.contents folder).files) (F.device.may_leave folder) (F.device.failures folder) fault c.args.lines.now (F.device.failures folder) (F.device.contents folder).files in
    at_err (λ r. IfErr r IsFault) c.from_residual.result p.0 faults.OutOfMemory p.1 p.2 (λ kinds agrees old goes_on.
    subst (λ (lines : List Text). Fails (run_input kinds task c.args.files c.args.changes (rest_of task (F.device.contents folder).files)) (ByChanges (F.device.contents folder).files) (F.device.may_leave folder) (F.device.failures folder) faults.OutOfMemory lines (F.device.failures folder) (F.device.contents folder).files)
    (sym c.requires.no_lines)
    (fails_early kinds task c.args.files c.args.changes (F.device.contents folder).files (F.device.may_leave folder) (F.device.failures folder) faults.OutOfMemory (F.device.failures folder) refl))

pub returns-clause-named : goal.returns-clause-named
returns-clause-named g c = subst (λ r. IfOk r (λ made. map (λ prints. prints.0) made.items ≡ map (λ (output : Output). output.name) c.args.task.now.outputs)) (sym c.ended.ensures)
    (if_made _ c.do_parts-done.result c.in_ok-parts.field-0.made c.in_ok-parts.ensures.named)

pub returns-clause-made : goal.returns-clause-made
returns-clause-made g c =
    let Made : Type 0 = Vec (List ℕ × List (List ℕ × List ℕ)) Global in
    subst (λ (r : Result Made Fault). IfOk r (λ made. (kinds : Kinds) → Agrees g.A.Actions.meanings c.args.table.now kinds → (old : Trees) (existing : Files) → IsTrue (is_sorted byte_order existing) → IsTrue (are_placed existing)
    → GoesOn kinds c.args.task.now old c.args.files c.args.changes c.args.outputs existing → (held : Files)
    × (made_of kinds c.args.task.now.actions c.args.task.now.values c.args.files c.args.task.now.outputs ≡ Ok held) × (made.items ≡ prints_at c.args.task.now.outputs held))) (sym c.ended.ensures)
    (if_made _ c.do_parts-done.result c.in_ok-parts.field-0.made c.in_ok-parts.ensures.made)

pub returns-clause-calls : goal.returns-clause-calls
unfolding changes_at
returns-clause-calls g c =
    let F = g.F.Folder in
    let led = c.do_parts-done.ensures in
    let at = is_output_of c.args.task.now in
    let places = subst (λ (parts : List Part). AllByRecursion (AreStepsAt at) parts) (sym c.as_slice.ensures.value) c.in_ok-parts.ensures.places in (
      led.0,
      led.2,
      permitted_parts (changes_at at) c.as_slice.result.now led.0 led.1 c.do_parts-done.result places led.3,
      λ kinds agrees.
          let run = increment_of kinds c.args.task.now c.args.files c.args.changes c.args.outputs in
          let Made : Type 0 = Vec (List ℕ × List (List ℕ × List ℕ)) Global in
          subst (λ (r : Result Made Fault). RunsByChanges run led.0 c.do_parts-done.new.lines (ending r)) (sym c.ended.ensures)
          (runs_by run led.0 c.in_ok-parts.field-0.parts.items c.as_slice.result.now c.in_ok-parts.field-0.made c.args.lines.now led.1 c.do_parts-done.new.lines c.do_parts-done.result
          c.as_slice.ensures.value (c.in_ok-parts.ensures.work kinds agrees) led.3 c.requires.no_lines led.4),
    )

pub returns-clause-requests : goal.returns-clause-requests
unfolding changes_at
returns-clause-requests g c =
    let F = g.F.Folder in
    let device = F.device in
    let led = c.do_parts-done.ensures in
    let at = is_output_of c.args.task.now in
    let places = subst (λ (parts : List Part). AllByRecursion (AreStepsAt at) parts) (sym c.as_slice.ensures.value) c.in_ok-parts.ensures.places in
    requests_of device (changes_at at) _ _ led.0 (permitted_parts (changes_at at) c.as_slice.result.now led.0 led.1 c.do_parts-done.result places led.3)
    led.2

pub returns-clause-blame : goal.returns-clause-blame
returns-clause-blame g c = λ place is.
    let F = g.F.Folder in
    let device = F.device in
    let led = c.do_parts-done.ensures in
    blamed_parts_for device c.as_slice.result.now led.0 led.1 c.do_parts-done.result _ _ led.3
    led.2 place
    (device_alone c.do_parts-done.result c.in_ok-parts.field-0.made place c.in_ok-parts.ensures.blames (sym c.ended.ensures ∙ is))

pub returns-clause-blamed : goal.returns-clause-blamed
returns-clause-blamed g c = λ place is.
    let led = c.do_parts-done.ensures in
    let at = is_output_of c.args.task.now in
    let places = subst (λ (parts : List Part). AllByRecursion (AreStepsAt at) parts) (sym c.as_slice.ensures.value) c.in_ok-parts.ensures.places in
    blamed_parts_at at c.as_slice.result.now led.0 led.1 c.do_parts-done.result places led.3 place
    (device_alone c.do_parts-done.result c.in_ok-parts.field-0.made place c.in_ok-parts.ensures.blames (sym c.ended.ensures ∙ is))

pub returns-clause-ok : goal.returns-clause-ok
returns-clause-ok g c = λ faithful.
    let F = g.F.Folder in
    let device = F.device in
    let task = c.args.task.now in
    let old = c.args.folder.now in
    let new = c.do_parts-done.new.folder in
    let lines = c.do_parts-done.new.lines in
    let start = (F.device.contents old).files in
    let done = c.do_parts-done.result in
    let led = c.do_parts-done.ensures in
    let leads = led.2 in
    let made = c.in_ok-parts.field-0.made in
    on_ok _ c.ended.result (or_made done made) c.ended.ensures (for_all (λ kinds. Agrees g.A.Actions.meanings c.args.table.now kinds) (λ kinds. (before : Trees) → GoesOn kinds task before c.args.files c.args.changes c.args.outputs start
    → EndsWell (run_input kinds task c.args.files c.args.changes (rest_of task start)) lines (F.device.contents new).files)
    (or_made done made) (λ kinds agrees. for_old (λ before. GoesOn kinds task before c.args.files c.args.changes c.args.outputs start) (EndsWell (run_input kinds task c.args.files c.args.changes (rest_of task start)) lines (F.device.contents new).files) (or_made done made) (λ before goes_on.
    ended_well (run_input kinds task c.args.files c.args.changes (rest_of task start)) (ByChanges start) (F.device.may_leave old) (F.device.failures old) (F.device.failures new) lines (F.device.contents new).files done made
    (subst (λ (ls : List Text). Ends (run_input kinds task c.args.files c.args.changes (rest_of task start)) (ByChanges start) (F.device.may_leave old) (F.device.failures old) (F.device.failures new) done (result_err made) ls (F.device.contents new).files) (sym (parts_so c.args.lines.now led.1 lines c.requires.no_lines led.4))
    (done_work_ends kinds task c.args.files c.args.changes c.args.outputs before start goes_on (all_fitting g.A.Actions.meanings kinds c.args.table.now task task.actions g.A.Actions.own_output agrees c.requires.ready)
    (g.met.F.Folder.sound old) (g.met.F.Folder.placed old) (F.device.may_leave old) (F.device.failures old) (F.device.failures new) (count_of device old new led.0 leads) _ led.1 (F.device.contents old) (F.device.contents new) led.0 done (c.in_ok-parts.ensures.work kinds agrees) refl
    (subst (λ (ps : List Part). DoesParts (map part_held ps) led.0 led.1 done) c.as_slice.ensures.value led.3) (answered_all device g.met.F.Folder.sound old new led.0 faithful leads)
    (λ place is. blamed_parts_for device c.as_slice.result.now led.0 led.1 done _ _ led.3 leads place is))))))

pub returns-clause-err : goal.returns-clause-err
returns-clause-err g c = λ faithful.
    let F = g.F.Folder in
    let device = F.device in
    let task = c.args.task.now in
    let old = c.args.folder.now in
    let new = c.do_parts-done.new.folder in
    let lines = c.do_parts-done.new.lines in
    let start = (F.device.contents old).files in
    let done = c.do_parts-done.result in
    let led = c.do_parts-done.ensures in
    let leads = led.2 in
    let made = c.in_ok-parts.field-0.made in
    if_err _ c.ended.result (or_made done made) c.ended.ensures (for_each (λ kinds. Agrees g.A.Actions.meanings c.args.table.now kinds)
    (λ kinds fault. (before : Trees) → GoesOn kinds task before c.args.files c.args.changes c.args.outputs start
    → Fails (run_input kinds task c.args.files c.args.changes (rest_of task start)) (ByChanges start) (F.device.may_leave old) (F.device.failures old) fault lines (F.device.failures new) (F.device.contents new).files) (or_made done made) (λ kinds agrees.
    for_each_old (λ before. GoesOn kinds task before c.args.files c.args.changes c.args.outputs start)
    (λ fault. Fails (run_input kinds task c.args.files c.args.changes (rest_of task start)) (ByChanges start) (F.device.may_leave old) (F.device.failures old) fault lines (F.device.failures new) (F.device.contents new).files) (or_made done made) (λ before goes_on.
    ended_badly (run_input kinds task c.args.files c.args.changes (rest_of task start)) (ByChanges start) (F.device.may_leave old) (F.device.failures old) (F.device.failures new) lines (F.device.contents new).files done made
    (subst (λ (ls : List Text). Ends (run_input kinds task c.args.files c.args.changes (rest_of task start)) (ByChanges start) (F.device.may_leave old) (F.device.failures old) (F.device.failures new) done (result_err made) ls (F.device.contents new).files) (sym (parts_so c.args.lines.now led.1 lines c.requires.no_lines led.4))
    (done_work_ends kinds task c.args.files c.args.changes c.args.outputs before start goes_on (all_fitting g.A.Actions.meanings kinds c.args.table.now task task.actions g.A.Actions.own_output agrees c.requires.ready)
    (g.met.F.Folder.sound old) (g.met.F.Folder.placed old) (F.device.may_leave old) (F.device.failures old) (F.device.failures new) (count_of device old new led.0 leads) _ led.1 (F.device.contents old) (F.device.contents new) led.0 done (c.in_ok-parts.ensures.work kinds agrees) refl
    (subst (λ (ps : List Part). DoesParts (map part_held ps) led.0 led.1 done) c.as_slice.ensures.value led.3) (answered_all device g.met.F.Folder.sound old new led.0 faithful leads)
    (λ place is. blamed_parts_for device c.as_slice.result.now led.0 led.1 done _ _ led.3 leads place is))))))
