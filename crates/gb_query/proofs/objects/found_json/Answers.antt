use Rattle.std.proofs.Common.{◌≡◌, ◌≤◌, rules, sym, subst}
use Rattle.serde_json.specs.Data.{Data, depth}
use Rattle.serde_json.specs.Read.{max_depth}
use Rattle.serde_json.specs.View.{view}
use Rattle.serde_json.specs.declared.value.Value.{the_lemmas}
use Rattle.serde_json.specs.declared.value.Value.TheVariants as values
use Rattle.gb_query.specs.Objects.{found_data}
use Rattle.gb_query.proofs.Depths.{found_shallow}
use Rattle.gb_query.proofs.objects.found_json.Goals as goal

pub json_line-requires : goal.json_line-requires
json_line-requires c =
    let relation = c.args.relation in
    let found = c.args.found.now in
    let is : view (values.Array c.in_ok-values.values) ≡ found_data relation found = search (rules, the_lemmas) in
    subst (λ (d : Data). depth d ≤ max_depth) (sym is) (found_shallow relation found)
