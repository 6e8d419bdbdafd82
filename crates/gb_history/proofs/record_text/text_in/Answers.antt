use Rattle.std.proofs.Common.{◌≡◌, subst, IfOk}
use Rattle.gb_history.specs.Text.{history_text_in, sealed}
use Rattle.gb_history.proofs.record_text.text_in.Goals as goal

pub returns-clause-text : goal.returns-clause-text
unfolding history_text_in
returns-clause-text c =
    subst (λ l. IfOk c.sealed_text.result (λ text. text.items ≡ sealed l)) c.in_ok-json_of.ensures.json c.sealed_text.ensures
