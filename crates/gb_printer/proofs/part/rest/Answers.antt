use Rattle.std.proofs.Common.{◌≡◌, ℕ, List, length, drop, ap, ◌∙◌, subst, IfOk, arith}
use Rattle.gb_printer.specs.Printing.{parts_text}
use Rattle.gb_printer.proofs.Parts.{following, parts_fit}
use Rattle.gb_printer.proofs.part.rest.Goals as goal

pub split_off-requires : goal.split_off-requires
split_off-requires c =
    omega (arith, parts_fit c.args.report.now, ap length c.in_ok-text.ensures, ap length c.in_ok-parts.ensures)

pub returns : goal.returns
returns c =
    let cut : c.len.result ≡ length (parts_text c.args.report.now) = omega (arith, c.len.ensures, ap length c.in_ok-parts.ensures) in
    subst (λ (l : List ℕ). IfOk c.split_off.result (λ text. text.items ≡ l))
    (ap (λ (n : ℕ). drop n c.in_ok-text.text.items) cut ∙ ap (λ (l : List ℕ). drop (length (parts_text c.args.report.now)) l) c.in_ok-text.ensures ∙ following c.args.report.now)
    c.split_off.ensures.tail
