use Rattle.std.proofs.Common.{◌≡◌, ◌≤◌, ap, map, rules, sym, subst, ◌∙◌}
use Rattle.std.specs.Prelude.{IfOk, string_bytes}
use Rattle.serde_json.specs.Data.{Data, array, depth}
use Rattle.serde_json.specs.Read.{max_depth}
use Rattle.serde_json.specs.View.{items_of, view}
use Rattle.serde_json.specs.declared.value.Value.{the_lemmas}
use Rattle.serde_json.specs.declared.value.Value.TheVariants as values
use Rattle.gb_query.specs.Listing.{task_object, tasks_data}
use Rattle.gb_query.specs.Objects.{IsJsonOf}
use Rattle.gb_query.proofs.Depths.{tasks_shallow}
use Rattle.gb_query.proofs.listing_objects.tasks_json.Goals as goal

pub json_line-requires : goal.json_line-requires
json_line-requires g c =
    let registry = g.Ts.Tasks.registry c.args.tasks.now in
    let all : view (values.Array c.in_ok-values.values) ≡ array (items_of (map (task_object registry) c.args.names.now)) = search (rules, the_lemmas) in
    let is : view (values.Array c.in_ok-values.values) ≡ tasks_data registry = all ∙ ap (λ paths. array (items_of (map (task_object registry) paths))) c.requires in
    subst (λ (d : Data). depth d ≤ max_depth) (sym is) (tasks_shallow registry)

pub returns : goal.returns
returns g c =
    let registry = g.Ts.Tasks.registry c.args.tasks.now in
    let all : view (values.Array c.in_ok-values.values) ≡ array (items_of (map (task_object registry) c.args.names.now)) = search (rules, the_lemmas) in
    let is : view (values.Array c.in_ok-values.values) ≡ tasks_data registry = all ∙ ap (λ paths. array (items_of (map (task_object registry) paths))) c.requires in
    subst (λ (d : Data). IfOk c.json_line.result (λ text. IsJsonOf d (string_bytes text))) is c.json_line.ensures
