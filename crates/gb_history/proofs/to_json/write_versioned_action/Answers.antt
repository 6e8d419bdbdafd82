use Rattle.std.proofs.Common.{[], ◌∷◌, codes, decimal, map}
use Rattle.json.specs.Token as token
use Rattle.serde_json.specs.Data.{array}
use Rattle.serde_json.specs.View.{items_of}
use Rattle.gb_history.specs.Text.{value_json}
use Rattle.gb_history.specs.Tokens.{data_tokens}
use Rattle.gb_history.proofs.Tokens.{following}
use Rattle.gb_history.proofs.to_json.write_versioned_action.Goals as goal

pub returns-clause-json : goal.returns-clause-json
returns-clause-json c =
    let r = c.end_object.result in
    following r c.args.writer.now.tokens c.begin_object.new.self.tokens _ (token.begin_object ∷ []) _ c.in_ok-begin_object.ensures.ok
    (following r c.begin_object.new.self.tokens c.key.new.self.tokens _ (token.key (codes "args") ∷ []) _ c.in_ok-key.ensures.ok
    (following r c.key.new.self.tokens c.write_arguments.new.writer.tokens _ (data_tokens (array (items_of (map value_json c.args.arguments.now)))) _ c.in_ok-write_arguments.ensures.json
    (following r c.write_arguments.new.writer.tokens c.write_text.new.writer.tokens _ (token.key (codes "kind") ∷ token.string c.args.kind.now ∷ []) _ c.in_ok-write_text.ensures.json
    (following r c.write_text.new.writer.tokens c.write_number.new.writer.tokens _ (token.key (codes "version") ∷ token.number (decimal c.args.version) ∷ []) _ (cc c.in_ok-write_number.ensures.json)
    c.end_object.ensures.ok))))
