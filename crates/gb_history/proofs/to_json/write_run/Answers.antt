use Rattle.std.proofs.Common.{[], ◌∷◌, codes, map}
use Rattle.json.specs.Token as token
use Rattle.serde_json.specs.Data.{array}
use Rattle.serde_json.specs.View.{items_of}
use Rattle.gb_history.specs.Text.{action_json, prints_json, output_json, input_json}
use Rattle.gb_history.specs.Tokens.{data_tokens}
use Rattle.gb_history.proofs.Tokens.{following}
use Rattle.gb_history.proofs.to_json.write_run.Goals as goal

pub returns-clause-json : goal.returns-clause-json
returns-clause-json c =
    let r = c.end_object.result in
    following r c.args.writer.now.tokens c.begin_object.new.self.tokens _ (token.begin_object ∷ []) _ c.in_ok-begin_object.ensures.ok
    (following r c.begin_object.new.self.tokens c.key.new.self.tokens _ (token.key (codes "actions") ∷ []) _ c.in_ok-key.ensures.ok
    (following r c.key.new.self.tokens c.write_actions.new.writer.tokens _ (data_tokens (array (items_of (map (action_json c.args.edition) c.args.run.now.actions)))) _ (cc c.in_ok-write_actions.ensures.json)
    (following r c.write_actions.new.writer.tokens c.key-2.new.self.tokens _ (token.key (codes "files") ∷ []) _ c.in_ok-key-2.ensures.ok
    (following r c.key-2.new.self.tokens c.write_properties.new.writer.tokens _ (data_tokens (array (items_of (map prints_json c.args.run.now.inputs)))) _ (cc c.in_ok-write_properties.ensures.json)
    (following r c.write_properties.new.writer.tokens c.key-3.new.self.tokens _ (token.key (codes "outputs") ∷ []) _ c.in_ok-key-3.ensures.ok
    (following r c.key-3.new.self.tokens c.write_outputs.new.writer.tokens _ (data_tokens (array (items_of (map output_json c.args.run.now.outputs)))) _ (cc c.in_ok-write_outputs.ensures.json)
    (following r c.write_outputs.new.writer.tokens c.write_text.new.writer.tokens _ (token.key (codes "task") ∷ token.string c.args.path.now ∷ []) _ (cc c.in_ok-write_text.ensures.json)
    (following r c.write_text.new.writer.tokens c.key-4.new.self.tokens _ (token.key (codes "values") ∷ []) _ c.in_ok-key-4.ensures.ok
    (following r c.key-4.new.self.tokens c.write_inputs.new.writer.tokens _ (data_tokens (array (items_of (map input_json c.args.run.now.values)))) _ (cc c.in_ok-write_inputs.ensures.json)
    c.end_object.ensures.ok)))))))))
