use Rattle.std.proofs.Common.{◌≡◌, List, ap, subst, sym, ◌∙◌}
use Rattle.std.specs.Prelude.{map}
use Rattle.gb_declare.specs.Registered.{registry_said}
use Rattle.gb_plan.specs.Graph.{paths_of}
use Rattle.gb_plan.specs.Task.{Path}
use Rattle.gb_project.proofs.SoundLemmas.{paths_said}
use Rattle.gb_query.specs.Inventory.{AreUnregistered}
use Rattle.gb_registry.specs.Source.{Source}
use Rattle.gb_registry.specs.Tables.{tables_of}
use Rattle.gb_ask_command.specs.Check.{unregistered_of}
use Rattle.gb_ask_command.proofs.check.warn_unregistered.Goals as goal

pub returns-clause-found : goal.returns-clause-found
returns-clause-found g c =
    let F = g.F.Folder in
    let source : Source = c.args.configured.now.registry in
    let tables = tables_of g.T.Transforms.meanings g.A.Actions.meanings c.args.configured.now.tables.now in
    let contents = F.device.contents c.args.folder.now in
    let left = c.in_ok-left.left.items in
    let names : c.as_slice.result.now ≡ paths_of (registry_said tables source) =
    c.as_slice.ensures.value ∙ c.in_ok-names.ensures ∙ sym c.tasks-registered.ensures.tasks ∙ c.tasks-registered.ensures.registered ∙ sym (paths_said tables source) in
    (left, λ faithful. subst (λ (paths : List Path). AreUnregistered contents paths left) names (c.in_ok-left.ensures.left faithful), c.in_ok-unregistered_found.ensures ∙ ap (map unregistered_of) c.as_slice-2.ensures.value)
