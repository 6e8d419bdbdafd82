use Rattle.std.proofs.Common.{ℕ, List, ◌++◌, ap₂, ◌∙◌}
use Rattle.json.specs.Token.{Token}
use Rattle.json.specs.Print.{print}
use Rattle.serde_json.proofs.Texts.{print-outline}
use Rattle.gb_history.specs.Text.{history_json}
use Rattle.gb_history.proofs.record_text.written.Goals as goal

pub returns : goal.returns
returns c edition records none tokens =
    c.into_inner.ensures.items ∙ ap₂ (λ (text : List ℕ) (ts : List Token). text ++ print ts) none tokens ∙ print-outline (history_json edition records)
