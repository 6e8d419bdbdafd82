use Rattle.std.proofs.Common.{◌≡◌, ◌≤◌, ap, rules, subst, sym, ◌∙◌}
use Rattle.std.specs.Prelude.{codes, map}
use Rattle.serde_json.specs.Data.{Data, array, depth, member, no_members, object, string}
use Rattle.serde_json.specs.Read.{max_depth}
use Rattle.serde_json.specs.View.{items_of, view}
use Rattle.serde_json.specs.declared.value.Value.{the_lemmas}
use Rattle.serde_json.specs.declared.value.Value.TheVariants as values
use Rattle.gb_query.specs.Objects.{activity_word, entry_object, status_data}
use Rattle.gb_query.proofs.Depths.{status_shallow}
use Rattle.gb_query.proofs.objects.status_json.Goals as goal

pub json_line-requires : goal.json_line-requires
json_line-requires c =
    let activity = c.args.activity in
    let found = c.args.entries.now in
    let files : view (values.Array c.in_ok-entry_objects.field-0) ≡ array (items_of (map entry_object found)) = search (rules, the_lemmas) in
    let is : view c.in_ok-value.field-0 ≡ status_data activity found =
    c.in_ok-value.ensures
    ∙ ap (λ build. object (member (codes "build") (string build) (member (codes "files") (view (values.Array c.in_ok-entry_objects.field-0)) no_members))) c.activity_word.ensures
    ∙ ap (λ (d : Data). object (member (codes "build") (string (activity_word activity)) (member (codes "files") d no_members))) files in
    subst (λ (d : Data). depth d ≤ max_depth) (sym is) (status_shallow activity found)
