use Rattle.std.proofs.Common.{◌≡◌, false, true, Ok, Some, Err, rules, sym, subst}
use Rattle.gb_folder.specs.Files.{is_empty}
use Rattle.gb_history.specs.Text.{record_text}
use Rattle.gb_report.specs.declared.fault.Fault.{Fault}
use Rattle.gb_task.specs.Keeping.{IsRemembered, IsUnwritten}
use Rattle.gb_task.proofs.Recorded.{with_outputs_exists}
use Rattle.gb_task.proofs.Unwritten.{remembered_reported, why_unwritten}
use Rattle.gb_task.specs.Stages.{StoresRecord}
use Rattle.gb_task.proofs.Stages.{QuietLed, stored, stored_none}
use Rattle.gb_task.proofs.keeping.remember.Goals as goal

pub returns-in-Ok-clause-exists : goal.returns-in-Ok-clause-exists
returns-in-Ok-clause-exists g c = λ faithful observed memory entry existed of.
    let task = c.args.task.now in
    let some : is_empty task.outputs ≡ false = search rules in
    with_outputs_exists task entry memory (g.F.Folder.device.contents c.store_record.new.folder).files some (c.in-Ok.ensures.exists faithful observed memory entry existed of)

pub returns-in-Err-clause-err : goal.returns-in-Err-clause-err
returns-in-Err-clause-err g c = λ faithful.
    let F = g.F.Folder in
    let path = c.args.task.now.path in
    subst (λ (fault : Fault). IsUnwritten path (Some (record_text path c.args.run.now)) (F.device.contents c.args.folder.now).files (F.device.failures c.args.folder.now) (F.device.failures c.store_record.new.folder) fault)
    (sym c.fault.ensures)
    (why_unwritten (F.device.may_leave c.args.folder.now) path (Some (record_text path c.args.run.now)) _ _ (F.device.contents c.args.folder.now) (F.device.contents c.store_record.new.folder) c.in-Err.unwritten
    (c.in-Err.ensures.err faithful))

pub returns-in-Err-clause-exists : goal.returns-in-Err-clause-exists
returns-in-Err-clause-exists g c = λ faithful observed memory entry existed of.
    let F = g.F.Folder in
    let task = c.args.task.now in
    subst (λ (fault : Fault). IsRemembered task entry memory (Err fault) (F.device.contents c.store_record.new.folder).files) (sym c.fault.ensures)
    (remembered_reported task entry memory c.in-Err.unwritten (F.device.contents c.store_record.new.folder).files (c.in-Err.ensures.exists faithful observed memory entry existed of))

pub returns-then-is_empty-clause-calls : goal.returns-then-is_empty-clause-calls
returns-then-is_empty-clause-calls g c =
    let task = c.args.task.now in
    let none : is_empty task.outputs ≡ true = search rules in
    stored_none g.F.Folder.device task c.args.run.now c.args.folder.now none

pub returns-in-Ok-clause-calls : goal.returns-in-Ok-clause-calls
returns-in-Ok-clause-calls g c =
    let task = c.args.task.now in
    let some : is_empty task.outputs ≡ false = search rules in
    stored g.F.Folder.device task c.args.run.now c.args.folder.now c.store_record.new.folder (Ok tt) some c.in-Ok.ensures.calls

pub returns-in-Err-clause-calls : goal.returns-in-Err-clause-calls
returns-in-Err-clause-calls g c =
    let F = g.F.Folder in
    let task = c.args.task.now in
    let some : is_empty task.outputs ≡ false = search rules in
    subst (λ (fault : Fault). QuietLed F.device (StoresRecord task c.args.run.now) c.args.folder.now (Err fault) c.store_record.new.folder) (sym c.fault.ensures)
    (stored F.device task c.args.run.now c.args.folder.now c.store_record.new.folder (Err c.in-Err.unwritten) some c.in-Err.ensures.calls)
