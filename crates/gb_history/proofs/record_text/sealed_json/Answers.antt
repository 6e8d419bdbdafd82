use Rattle.std.proofs.Common.{◌≡◌, subst, IfOk}
use Rattle.gb_history.specs.Text.{history_text_in, sealed}
use Rattle.gb_history.proofs.record_text.sealed_json.Goals as goal

pub returns : goal.returns
unfolding history_text_in
returns c edition records none tokens =
    subst (λ l. IfOk c.sealed_text.result (λ text. text.items ≡ sealed l)) (c.written.ensures edition records none tokens) c.sealed_text.ensures
