use Rattle.std.proofs.Common.{◌≡◌, ◌≤◌, ap, rules, subst, sym, ◌∙◌}
use Rattle.std.specs.Prelude.{codes}
use Rattle.std.specs.List.{flat_map}
use Rattle.serde_json.specs.Data.{Data, array, depth, member, no_members, object}
use Rattle.serde_json.specs.Read.{max_depth}
use Rattle.serde_json.specs.View.{items_of, view}
use Rattle.serde_json.specs.declared.value.Value.{the_lemmas}
use Rattle.serde_json.specs.declared.value.Value.TheVariants as values
use Rattle.gb_query.specs.Drawn.{edges_of, graph_data, names_data}
use Rattle.gb_query.proofs.Depths.{graph_shallow}
use Rattle.gb_query.proofs.drawn.graph_json.Goals as goal

pub json_line-requires : goal.json_line-requires
json_line-requires c =
    let nodes = c.args.nodes.now in
    let edges : view (values.Array c.in_ok-edges.field-0) ≡ array (items_of (flat_map (edges_of nodes) nodes)) = search (rules, the_lemmas) in
    let is : view c.in_ok-value.field-0 ≡ graph_data nodes =
    c.in_ok-value.ensures
    ∙ ap (λ (d : Data). object (member (codes "edges") d (member (codes "tasks") (names_data nodes) no_members))) edges in
    subst (λ (d : Data). depth d ≤ max_depth) (sym is) (graph_shallow nodes)
