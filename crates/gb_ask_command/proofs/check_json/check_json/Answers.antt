use Rattle.std.proofs.Common.{◌≡◌, ◌≤◌, rules, sym, subst}
use Rattle.serde_json.specs.Data.{Data, depth}
use Rattle.serde_json.specs.Read.{max_depth}
use Rattle.serde_json.specs.View.{view}
use Rattle.serde_json.specs.declared.value.Value.{the_lemmas}
use Rattle.serde_json.specs.declared.value.Value.TheVariants as values
use Rattle.gb_ask_command.specs.CheckJson.{check_data}
use Rattle.gb_ask_command.proofs.CheckDepths.{check_shallow}
use Rattle.gb_ask_command.proofs.check_json.check_json.Goals as goal

pub json_line-requires : goal.json_line-requires
json_line-requires c =
    let reply = c.args.reply.now in
    let is : view (values.Array c.in_ok-values.values) ≡ check_data reply = search (rules, the_lemmas) in
    subst (λ (d : Data). depth d ≤ max_depth) (sym is) (check_shallow reply)
