use Rattle.std.proofs.Common.{◌≡◌, true, ◌&&◌, if◌then◌else◌, Some, None, sym, ap, subst, ◌∙◌}
use Rattle.std.proofs.lemmas.Str.{is_utf8-from_IsUtf8}
use Rattle.gb_core.specs.Place.{is_rel_path}
use Rattle.gb_pages.proofs.Texts.{not_text}
use Rattle.gb_pages.proofs.page_paths.as_path.Goals as goal

pub returns-in_default : goal.returns-in_default
returns-in_default c =
    let bytes = c.args.bytes.now in
    sym (ap (λ b. if b && is_rel_path bytes then Some bytes else None)
    (not_text bytes c.in_default.ensures.cases.0))

pub returns-in-Ok-read : goal.returns-in-Ok-read
returns-in-Ok-read c =
    let bytes = c.args.bytes.now in
    let is : c.in-Ok.text.now ≡ bytes = c.in-Ok.ensures.cases.0 in
    let path : is_rel_path bytes ≡ true = subst (λ t. is_rel_path t ≡ true) is c.in-Ok-read.ensures.good in
    ap Some (c.in-Ok-read.ensures.text ∙ is)
    ∙ sym (ap (λ b. if b && is_rel_path bytes then Some bytes else None)
    (is_utf8-from_IsUtf8 bytes c.in-Ok.ensures.cases.1) ∙ ap (λ b. if b then Some bytes else None) path)
