use Rattle.std.proofs.Common.{sym, ap, ◌∙◌}
use Rattle.gb_graph.specs.Ranked.{number_at}
use Rattle.gb_graph.proofs.Looked.{looked_up, numbers_of}
use Rattle.gb_graph.proofs.by_path.Numbers.get.Goals as goal

pub returns : goal.returns
returns c =
    let entries = c.self.inside.entries.entries in
    c.copied.ensures ∙ c.get.ensures.value ∙ sym (looked_up entries c.as_str.result.now)
    ∙ ap (number_at (numbers_of entries)) c.as_str.ensures.text ∙ ap (λ numbers. number_at numbers c.args.path.now) c.self.view_is
