use Rattle.std.proofs.Common.{sym, ap, ◌∙◌}
use Rattle.gb_core.specs.Place.{is_place}
use Rattle.gb_tree.specs.Tree.{path_from}
use Rattle.gb_query.proofs.Segments.{rest_beneath}
use Rattle.gb_query.proofs.membership.relative_to.Goals as goal

pub read_place-requires-else-eq : goal.read_place-requires-else-eq
read_place-requires-else-eq c =
    let root = c.args.root.now in
    let place = c.args.place.now in
    ap is_place (c.text_from.ensures.path ∙ ap (λ r. path_from r c.as_str-else-eq-2.result.now) c.as_str-else-eq.ensures.text ∙ ap (path_from root) c.as_str-else-eq-2.ensures.text)
    ∙ rest_beneath root place c.requires (sym c.eq.ensures ∙ c.if-eq.false) c.as_str-else-eq-2.ensures.place
