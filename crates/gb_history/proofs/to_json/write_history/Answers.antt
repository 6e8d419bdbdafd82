use Rattle.std.proofs.Common.{[], ◌∷◌, codes, decimal, map}
use Rattle.json.specs.Token as token
use Rattle.serde_json.specs.Data.{array}
use Rattle.serde_json.specs.View.{items_of}
use Rattle.gb_history.specs.Text.{edition_number, held_json}
use Rattle.gb_history.specs.Tokens.{data_tokens}
use Rattle.gb_history.proofs.Tokens.{following}
use Rattle.gb_history.proofs.to_json.write_history.Goals as goal

pub returns-clause-json : goal.returns-clause-json
returns-clause-json c =
    let r = c.end_object.result in
    following r c.args.writer.now.tokens c.begin_object.new.self.tokens _ (token.begin_object ∷ []) _ c.in_ok-begin_object.ensures.ok
    (following r c.begin_object.new.self.tokens c.write_number.new.writer.tokens _ (token.key (codes "form") ∷ token.number (decimal (edition_number c.args.edition)) ∷ []) _ (cc c.in_ok-write_number.ensures.json)
    (following r c.write_number.new.writer.tokens c.key.new.self.tokens _ (token.key (codes "tasks") ∷ []) _ c.in_ok-key.ensures.ok
    (following r c.key.new.self.tokens c.write_records.new.writer.tokens _ (data_tokens (array (items_of (map (held_json c.args.edition) c.args.records.now.entries)))) _ c.in_ok-write_records.ensures.json
    c.end_object.ensures.ok)))
