use Rattle.std.proofs.Common.{◌≡◌, ◌++◌, List, ap, ◌∙◌, IfOk, subst}
use Rattle.json.specs.Token.{Token}
use Rattle.gb_history.specs.Text.{history_json, history_text_in}
use Rattle.gb_history.specs.Tokens.{data_tokens}
use Rattle.gb_history.proofs.history.History.text_in.Goals as goal

pub returns-clause-text : goal.returns-clause-text
returns-clause-text c =
    subst (λ records. IfOk c.sealed_json.result (λ text. text.items ≡ history_text_in c.args.edition records)) c.self.view_is
    (c.sealed_json.ensures c.args.edition c.self.inside.records.entries
    (c.in_ok-write_history.ensures.before ∙ c.new-writer.ensures.before ∙ c.new.ensures.items)
    (
    c.in_ok-write_history.ensures.json
    ∙ ap (λ (ts : List Token). ts ++ data_tokens (history_json c.args.edition c.self.inside.records.entries)) c.new-writer.ensures.tokens
    ))
