use Rattle.std.proofs.Common.{◌≡◌, ◌++◌, ◌∷◌, [], ap, ◌∙◌, append_assoc, unwrap_or}
use Rattle.std.specs.BTreeMap.{get}
use Rattle.std.specs.Option.{option_map}
use Rattle.gb_core.specs.Lists.{byte_order}
use Rattle.gb_kinds.proofs.WordFiles.{items, line_added, or_nothing, ordered}
use Rattle.gb_kinds.proofs.index.add_line.Goals as goal

pub returns-clause-ordered : goal.returns-clause-ordered
returns-clause-ordered c = ordered c.insert.new.self.entries c.in_ok-insert.ensures.ordered

pub returns-clause-paths : goal.returns-clause-paths
returns-clause-paths c = λ other.
    let existed = unwrap_or (option_map items (get byte_order c.args.index.now c.args.word.now)) [] in
    let first : c.unwrap_or-lines.result.items ≡ existed = ap items (c.unwrap_or-lines.ensures ∙ ap (λ o. unwrap_or o c.new.result) c.remove.ensures.value) ∙ or_nothing (get byte_order c.args.index.now c.args.word.now) c.new.result c.new.ensures.items in
    let longer : c.push.new.self.items ≡ (existed ++ c.args.path.now) ++ 10 ∷ [] = c.in_ok-push.ensures.items ∙ ap (λ l. l ++ 10 ∷ []) (c.in_ok-extend_from_slice.ensures.items ∙ ap (λ l. l ++ c.as_bytes.result.now) first ∙ ap (λ l. existed ++ l) (c.as_bytes.ensures.value ∙ c.as_str.ensures.text)) in
    line_added c.args.word.now c.args.path.now c.args.index.now c.remove.new.self c.insert.new.self c.in_ok-copy.field-0 c.push.new.self c.in_ok-copy.ensures
    c.remove.ensures.updates.0 c.in_ok-insert.ensures.updates.0 (longer ∙ append_assoc existed c.args.path.now (10 ∷ [])) other
