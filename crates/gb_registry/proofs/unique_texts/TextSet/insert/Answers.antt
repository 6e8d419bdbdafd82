use Rattle.std.proofs.Common.{ap, map, ◌∙◌, string_bytes}
use Rattle.gb_registry.specs.Projects.{with_path}
use Rattle.gb_registry.proofs.Among.{inserted}
use Rattle.gb_registry.proofs.unique_texts.TextSet.insert.Goals as goal

pub returns-clause-ok : goal.returns-clause-ok
returns-clause-ok c =
    ap (map string_bytes) c.in_ok-insert_full.ensures.keys
    ∙ inserted string_bytes c.self.inside.texts.keys c.in_ok-key.key
    ∙ ap (with_path (map string_bytes c.self.inside.texts.keys)) c.in_ok-key.ensures.ok
    ∙ ap (λ texts. with_path texts c.args.text.now) c.self.view_is
