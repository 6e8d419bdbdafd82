use Rattle.std.proofs.Common.{sym, ap, ◌∙◌, string_bytes, bytes_eq}
use Rattle.std.specs.Prelude.{position}
use Rattle.gb_registry.proofs.Among.{position-map}
use Rattle.gb_registry.proofs.unique_texts.TextSet.position.Goals as goal

pub returns : goal.returns
returns c =
    c.get_index_of.ensures.index ∙ sym (position-map string_bytes (bytes_eq c.args.text.now) c.self.inside.texts.keys)
    ∙ ap (position (bytes_eq c.args.text.now)) c.self.view_is
