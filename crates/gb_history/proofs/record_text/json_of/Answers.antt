use Rattle.std.proofs.Common.{[], ◌∷◌, ◌++◌, List, ap, ◌∙◌}
use Rattle.json.specs.Token.{Token}
use Rattle.gb_history.specs.Text.{record_json}
use Rattle.gb_history.specs.Tokens.{data_tokens}
use Rattle.gb_history.proofs.record_text.json_of.Goals as goal

pub returns-clause-json : goal.returns-clause-json
returns-clause-json c =
    c.written.ensures c.args.edition ((c.args.path.now, c.args.run.now) ∷ [])
    (c.in_ok-write_record.ensures.before ∙ c.new-writer.ensures.before ∙ c.in_ok-with_capacity.ensures.items)
    (
    c.in_ok-write_record.ensures.json
    ∙ ap (λ (ts : List Token). ts ++ data_tokens (record_json c.args.edition c.args.path.now c.args.run.now)) c.new-writer.ensures.tokens
    )
