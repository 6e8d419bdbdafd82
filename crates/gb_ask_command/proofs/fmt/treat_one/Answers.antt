use Rattle.std.specs.Prelude.{string_bytes}
use Rattle.std.proofs.lemmas.Result.{err_from_is_err_and}
use Rattle.gb_folder.specs.Each.{Ended}
use Rattle.gb_report.specs.declared.fault.Fault.{Fault}
use Rattle.gb_folder.proofs.Machine.{at_err}
use Rattle.gb_ask_command.specs.Fmt.{IsTreated}
use Rattle.gb_ask_command.proofs.Treating.{OneDone, one_done, one_fails}
use Rattle.gb_ask_command.proofs.fmt.treat_one.Goals as goal

pub returns-in_err-text : goal.returns-in_err-text
returns-in_err-text g c =
    let F = g.F.Folder in
    let W = g.W.Printer in
    let p = err_from_is_err_and c.from_residual.result c.from_residual.ensures.1 in
    at_err (λ (r : Ended Fault). OneDone F.device W.contents W.whole (IsTreated c.args.mode c.args.headed c.args.input.now) c.args.name.now c.args.folder.now c.args.writer.now c.args.any.now r c.treat.new.folder c.args.writer.now c.args.any.now)
    c.from_residual.result p.0 c.in_err-text.field-0.0 p.1 p.2
    (one_fails F.device W.contents W.whole c.args.mode c.args.headed c.args.input.now c.args.name.now c.args.folder.now c.treat.new.folder c.args.writer.now c.args.any.now c.in_err-text.field-0.0 c.in_err-text.ensures)

pub returns : goal.returns
returns g c =
    let F = g.F.Folder in
    let W = g.W.Printer in
    one_done F.device W.contents W.whole c.args.mode c.args.headed c.args.input.now c.args.name.now (string_bytes c.in_ok-text.text) c.args.folder.now c.treat.new.folder c.args.writer.now c.print_noted.new.writer c.args.any.now c.print_noted.new.any
    c.in_ok-text.ensures c.print_noted.ensures.prints c.print_noted.ensures.notes
