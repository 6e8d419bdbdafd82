use Rattle.std.proofs.Common.{ℕ, List, Result, Err, subst}
use Rattle.std.specs.Global.{Global}
use Rattle.std.specs.declared.string.String.{String}
use Rattle.std.specs.Prelude.{string_bytes}
use Rattle.std.proofs.lemmas.Result.{err_from_is_err_and}
use Rattle.gb_report.specs.declared.fault.Fault.{Fault}
use Rattle.gb_folder.proofs.Machine.{at_err}
use Rattle.gb_ask_command.specs.Fmt.{string_in}
use Rattle.gb_ask_command.proofs.Treating.{FileDone, TextDone, file_done, file_fails, name_fails, name_is}
use Rattle.gb_ask_command.proofs.fmt.treat.Goals as goal

pub returns-in_err-place : goal.returns-in_err-place
returns-in_err-place g c =
    let F = g.F.Folder in
    let name = string_bytes c.args.name.now in
    let p = err_from_is_err_and c.from_residual.result c.from_residual.ensures.1 in
    at_err (λ (r : Result (String Global) Fault). FileDone F.device c.args.mode c.args.headed c.args.input.now name c.args.folder.now (string_in r) c.args.folder.now)
    c.from_residual.result p.0 c.in_err-place.field-0.0 p.1 p.2
    (name_fails F.device c.args.mode c.args.headed name c.args.input.now c.args.folder.now c.in_err-place.field-0.0 (name_is c.args.input.now name c.in_err-place.field-0.0 c.in_err-place.ensures.fault))

pub returns-in_err-text : goal.returns-in_err-text
returns-in_err-text g c =
    let F = g.F.Folder in
    let p = err_from_is_err_and c.from_residual-in_err-text.result c.from_residual-in_err-text.ensures.1 in
    at_err (λ (r : Result (String Global) Fault). FileDone F.device c.args.mode c.args.headed c.args.input.now (string_bytes c.args.name.now) c.args.folder.now (string_in r) c.text_at.new.folder)
    c.from_residual-in_err-text.result p.0 c.in_err-text.field-0.0 p.1 p.2
    (subst (λ (place : List ℕ). FileDone F.device c.args.mode c.args.headed c.args.input.now place c.args.folder.now (string_in (Err c.in_err-text.field-0.0)) c.text_at.new.folder) c.in_ok-place.ensures.place
    (file_fails F.device c.args.mode c.args.headed c.in_ok-place.place c.args.input.now c.args.folder.now c.text_at.new.folder c.in_err-text.field-0.0 c.in_err-text.ensures))

pub returns : goal.returns
returns g c =
    let F = g.F.Folder in
    let text = c.in_ok-text.text.items in
    subst (λ (place : List ℕ). FileDone F.device c.args.mode c.args.headed c.args.input.now place c.args.folder.now (string_in c.treat_text.result) c.treat_text.new.folder) c.in_ok-place.ensures.place
    (file_done F.device c.args.mode c.args.headed c.in_ok-place.place c.args.input.now text c.args.folder.now c.text_at.new.folder c.treat_text.new.folder (string_in c.treat_text.result) c.in_ok-text.ensures
    (subst (λ (t : List ℕ). TextDone F.device c.args.mode c.args.headed c.in_ok-place.place t c.text_at.new.folder (string_in c.treat_text.result) c.treat_text.new.folder) c.as_slice.ensures.value c.treat_text.ensures))
