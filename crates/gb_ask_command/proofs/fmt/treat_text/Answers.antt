use Rattle.std.proofs.Common.{Result, subst}
use Rattle.std.specs.Global.{Global}
use Rattle.std.specs.declared.string.String.{String}
use Rattle.std.specs.Prelude.{string_bytes}
use Rattle.std.proofs.lemmas.Result.{err_from_is_err_and}
use Rattle.gb_report.specs.declared.fault.Fault.{Fault}
use Rattle.gb_folder.proofs.Machine.{at_err}
use Rattle.gb_ask_command.specs.Fmt.{string_in}
use Rattle.gb_ask_command.specs.declared.arguments.Mode.{Mode}
use Rattle.gb_ask_command.proofs.Treating.{Shown, TextDone, text_done, text_fails}
use Rattle.gb_ask_command.proofs.fmt.treat_text.Goals as goal

pub returns-in_err-out : goal.returns-in_err-out
returns-in_err-out g c =
    let F = g.F.Folder in
    let p = err_from_is_err_and c.from_residual.result c.from_residual.ensures.1 in
    at_err (λ (r : Result (String Global) Fault). TextDone F.device c.args.mode c.args.headed c.args.place.now c.args.text.now c.args.folder.now (string_in r) c.args.folder.now)
    c.from_residual.result p.0 c.in_err-out.field-0.0 p.1 p.2
    (text_fails F.device c.args.mode c.args.headed c.args.place.now c.args.text.now c.args.folder.now c.in_err-out.field-0.0 c.in_err-out.ensures)

pub returns : goal.returns
returns g c =
    let F = g.F.Folder in
    text_done F.device c.args.mode c.args.headed c.args.place.now c.args.text.now (string_bytes c.in_ok-out.out) c.args.folder.now c.show.new.folder (string_in c.show.result)
    c.in_ok-out.ensures
    (subst (λ (m : Mode). Shown F.device m c.args.headed c.args.place.now c.args.text.now (string_bytes c.in_ok-out.out) c.args.folder.now (string_in c.show.result) c.show.new.folder) c.mode_at.ensures c.show.ensures)
