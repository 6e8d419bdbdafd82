use Rattle.std.proofs.Common.{if◌then◌else◌, codes, sym, ap, ◌∙◌}
use Rattle.std.proofs.lemmas.Str.{is_utf8-from_IsUtf8}
use Rattle.gb_pages.proofs.Texts.{not_text}
use Rattle.gb_pages.proofs.layout.shown.Goals as goal

pub returns-in-Ok : goal.returns-in-Ok
returns-in-Ok c =
    let name = c.args.name.now in
    c.in-Ok.ensures.cases.0 ∙ sym (ap (λ b. if b then name else codes "(no text)")
    (is_utf8-from_IsUtf8 name c.in-Ok.ensures.cases.1))

pub returns-in-Err : goal.returns-in-Err
returns-in-Err c =
    let name = c.args.name.now in
    sym (ap (λ b. if b then name else codes "(no text)") (not_text name c.in-Err.ensures.cases.0))
