use Rattle.std.proofs.Common.{[], ◌∷◌, codes, map}
use Rattle.json.specs.Token as token
use Rattle.serde_json.specs.Data.{array}
use Rattle.serde_json.specs.View.{items_of}
use Rattle.gb_history.specs.Text.{print_json, shape_text}
use Rattle.gb_history.specs.Tokens.{data_tokens}
use Rattle.gb_history.proofs.Tokens.{following}
use Rattle.gb_history.proofs.to_json.write_output.Goals as goal

pub returns-clause-json : goal.returns-clause-json
returns-clause-json c =
    let r = c.end_object.result in
    following r c.args.writer.now.tokens c.begin_object.new.self.tokens _ (token.begin_object ∷ []) _ c.in_ok-begin_object.ensures.ok
    (following r c.begin_object.new.self.tokens c.write_text.new.writer.tokens _ (token.key (codes "name") ∷ token.string c.args.output.now.prints.0 ∷ []) _ (cc c.in_ok-write_text.ensures.json)
    (following r c.write_text.new.writer.tokens c.write_text-2.new.writer.tokens _ (token.key (codes "place") ∷ token.string c.args.output.now.place ∷ []) _ (cc c.in_ok-write_text-2.ensures.json)
    (following r c.write_text-2.new.writer.tokens c.key.new.self.tokens _ (token.key (codes "prints") ∷ []) _ c.in_ok-key.ensures.ok
    (following r c.key.new.self.tokens c.write_digests.new.writer.tokens _ (data_tokens (array (items_of (map print_json c.args.output.now.prints.1)))) _ (cc c.in_ok-write_digests.ensures.json)
    (following r c.write_digests.new.writer.tokens c.write_text-3.new.writer.tokens _ (token.key (codes "shape") ∷ token.string (shape_text c.args.output.now.form) ∷ []) _ (cc c.in_ok-write_text-3.ensures.json)
    c.end_object.ensures.ok)))))
