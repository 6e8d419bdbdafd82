use Rattle.std.proofs.Common.{◌≡◌, ◌+◌, ◌==◌, if◌then◌else◌, Some, count_by, take, sym, ap, subst, ◌∙◌, IfOk}
use Rattle.std.proofs.lemmas.Str.{is_utf8-from_IsUtf8}
use Rattle.std.specs.Str.Lossy.{utf8_valid_len}
use Rattle.gb_pages.specs.Checked.{bad_line, no_text, wrong, wrong_text}
use Rattle.gb_pages.proofs.Texts.{not_text}
use Rattle.gb_pages.proofs.checked.wrong.Goals as goal

pub returns-in-Ok : goal.returns-in-Ok
returns-in-Ok c =
    let bytes = c.args.bytes.now in
    let is : wrong bytes ≡ wrong_text bytes = ap (λ b. if b then wrong_text bytes else Some (no_text
    (bad_line bytes))) (is_utf8-from_IsUtf8 bytes c.in-Ok.ensures.cases.1) in
    subst (λ meant. IfOk c.wrong_text.result (λ found. found ≡ meant)) (sym is) c.wrong_text.ensures

pub returns-in-Err : goal.returns-in-Err
returns-in-Err c =
    let bytes = c.args.bytes.now in
    let index : c.valid_up_to.result ≡ utf8_valid_len bytes = c.valid_up_to.ensures
    ∙ c.in-Err.ensures.valid_len in
    let line : c.line_of.result ≡ bad_line bytes = c.line_of.ensures
    ∙ ap (λ n. count_by (λ b. b == 10) (take n bytes) + 1) index in
    let is : wrong bytes ≡ Some (no_text (bad_line bytes)) = ap (λ b. if b then wrong_text bytes else Some
    (no_text (bad_line bytes))) (not_text bytes c.in-Err.ensures.cases.0) in
    subst (λ meant. IfOk c.no_text.result (λ found. found ≡ meant)) (ap (λ n. Some (no_text n)) line
    ∙ sym is) c.no_text.ensures
