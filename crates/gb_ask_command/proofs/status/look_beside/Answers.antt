use Rattle.std.proofs.Common.{◌≡◌, List, subst, sym, ◌∙◌}
use Rattle.std.specs.Prelude.{IfOk, string_bytes}
use Rattle.gb_plan.specs.Graph.{paths_of}
use Rattle.gb_plan.specs.Task.{Path}
use Rattle.gb_query.specs.Notation.{IsStatusOf}
use Rattle.gb_registry.specs.Source.{Source}
use Rattle.gb_registry.specs.Tables.{tables_of}
use Rattle.gb_declare.specs.Registered.{registry_said}
use Rattle.gb_project.proofs.SoundLemmas.{paths_said}
use Rattle.gb_ask_command.proofs.status.look_beside.Goals as goal

pub returns-clause-text : goal.returns-clause-text
returns-clause-text g c =
    let F = g.F.Folder in
    let notation = c.args.notation in
    let activity = c.args.activity in
    let source : Source = c.args.configured.now.registry in
    let tables = tables_of g.T.Transforms.meanings g.A.Actions.meanings c.args.configured.now.tables.now in
    let files = (F.device.contents c.args.folder.now).files in
    let names : c.as_slice.result.now ≡ paths_of (registry_said tables source) =
    c.as_slice.ensures.value ∙ c.in_ok-names.ensures ∙ sym c.tasks-registered.ensures.tasks ∙ c.tasks-registered.ensures.registered ∙ sym (paths_said tables source) in
    subst (λ (paths : List Path). IfOk c.inventory_text.result (λ text. IsStatusOf (F.device.faithful c.inventory_text.new.folder) notation activity files paths (string_bytes text))) names c.inventory_text.ensures.text
