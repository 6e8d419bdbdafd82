use Rattle.std.proofs.Common.{◌++◌, ap, ◌∙◌, append_assoc, string_bytes, OnOk, Result, Ok, Err, List, ℕ}
use Rattle.std.specs.Prelude.{codes}
use Rattle.gb_reason.specs.Text.{difference_text}
use Rattle.gb_reason.proofs.reason_text.push_other.Goals as goal

on_ok_as : {T E A B : Type 0} (r : Result T E) → OnOk r A → (A → B) → OnOk r B
on_ok_as (Ok x) held f = f held
on_ok_as (Err e) held f = tt

pub returns : goal.returns
returns c =
    let named = codes "input value " ++ c.args.name.now ++ codes " was " in
    let reported = difference_text c.args.was.now c.args.is.now in
    on_ok_as c.push_difference.result c.push_difference.ensures (λ is.
    is ∙ ap (λ (l : List ℕ). l ++ reported) c.in_ok-write.ensures.bytes ∙ append_assoc (string_bytes c.args.text.now) named reported)
