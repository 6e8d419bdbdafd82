use Rattle.std.proofs.Common.{sym, ap, ◌∙◌, string_bytes, bytes_eq}
use Rattle.gb_registry.specs.Projects.{is_among}
use Rattle.gb_registry.proofs.Among.{list_any-map}
use Rattle.gb_registry.proofs.unique_texts.TextSet.contains.Goals as goal

pub returns : goal.returns
returns c =
    c.contains.ensures ∙ sym (list_any-map string_bytes (bytes_eq c.args.text.now) c.self.inside.texts.keys)
    ∙ ap (λ texts. is_among texts c.args.text.now) c.self.view_is
