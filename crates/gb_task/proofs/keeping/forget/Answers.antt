use Rattle.std.proofs.Common.{Err, Ok, subst, sym}
use Rattle.gb_records.proofs.Holding.{not_there}
use Rattle.gb_report.specs.declared.fault.Fault.{Fault}
use Rattle.gb_task.specs.Stages.{DeletesRecord}
use Rattle.gb_task.proofs.Stages.{QuietLed, deleted, deleted_none}
use Rattle.gb_task.proofs.keeping.forget.Goals as goal

pub returns-then-not-was_read-clause-exists : goal.returns-then-not-was_read-clause-exists
returns-then-not-was_read-clause-exists g c = λ faithful observed memory existed none.
    not_there (g.F.Folder.device.contents c.args.folder.now).files memory c.args.path.now c.as_str-path.ensures.path existed (none c.if-not-was_read.true)

pub returns-then-not-was_read-clause-calls : goal.returns-then-not-was_read-clause-calls
returns-then-not-was_read-clause-calls g c = deleted_none g.F.Folder.device c.args.path.now c.args.was_read c.args.folder.now c.if-not-was_read.true

pub returns-in-Ok-clause-calls : goal.returns-in-Ok-clause-calls
returns-in-Ok-clause-calls g c = deleted g.F.Folder.device c.args.path.now c.args.was_read c.args.folder.now c.delete_record.new.folder (Ok tt) c.if-not-was_read.false c.in-Ok.ensures.calls

pub returns-in-Err-clause-calls : goal.returns-in-Err-clause-calls
returns-in-Err-clause-calls g c =
    let F = g.F.Folder in
    subst (λ (fault : Fault). QuietLed F.device (DeletesRecord c.args.path.now c.args.was_read) c.args.folder.now (Err fault) c.delete_record.new.folder) (sym c.fault.ensures)
    (deleted F.device c.args.path.now c.args.was_read c.args.folder.now c.delete_record.new.folder (Err c.in-Err.fault) c.if-not-was_read.false c.in-Err.ensures.calls)
