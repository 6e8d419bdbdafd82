use Rattle.std.proofs.Common.{◌++◌, ap, sym, ◌∙◌, append_assoc, string_bytes, OnOk, Result, Ok, Err, List, ℕ}
use Rattle.std.specs.Prelude.{codes, decimal}
use Rattle.gb_reason.specs.Text.{difference_text}
use Rattle.gb_reason.proofs.reason_text.push_argument.Goals as goal

on_ok_as : {T E A B : Type 0} (r : Result T E) → OnOk r A → (A → B) → OnOk r B
on_ok_as (Ok x) held f = f held
on_ok_as (Err e) held f = tt

pub returns : goal.returns
returns c =
    let text = string_bytes c.args.text.now in
    let number = decimal c.args.number in
    let kind = c.args.kind.now in
    let was = codes " was " in
    let reported = difference_text c.args.was.now c.args.is.now in
    let of = codes " of " in
    let following = number ++ (of ++ (kind ++ was)) in
    let named : List ℕ = codes "argument " ++ following in
    let grouped = append_assoc (number ++ of) kind was ∙ append_assoc number of (kind ++ was) in
    on_ok_as c.push_difference.result c.push_difference.ensures (λ is.
    is ∙ ap (λ (l : List ℕ). l ++ reported) c.in_ok-write.ensures.bytes ∙ append_assoc text named reported
    ∙ ap (λ (l : List ℕ). text ++ ((codes "argument " ++ l) ++ reported)) (sym grouped))
