use Rattle.std.proofs.Common.{◌≡◌, List, ap, subst, sym, ◌∙◌}
use Rattle.std.specs.Prelude.{IfOk}
use Rattle.gb_plan.specs.Graph.{Registry, paths_of}
use Rattle.gb_registry.specs.SoFar.{scripts_in}
use Rattle.gb_registry.specs.Projects.{Path}
use Rattle.gb_registry.specs.References.{Names}
use Rattle.gb_registry.specs.Source.{Source}
use Rattle.gb_registry.specs.Tables.{tables_of}
use Rattle.gb_check.specs.All.{AreFindings}
use Rattle.gb_declare.specs.Registered.{registry_said}
use Rattle.gb_project.proofs.SoundLemmas.{paths_said}
use Rattle.gb_project.specs.Scripts.{registry_in}
use Rattle.gb_ask_command.proofs.check.check_tasks.Goals as goal

pub find-found-requires : goal.find-found-requires
find-found-requires g c =
    let tasks = c.in_ok-tasks.tasks in
    let source : Source = c.args.configured.now.registry in
    let tables = tables_of g.T.Transforms.meanings g.A.Actions.meanings c.args.configured.now.tables.now in
    let same : registry_in g.T.Transforms.meanings g.A.Actions.meanings tasks.workspace ≡ registry_said tables source = c.in_ok-tasks.ensures.registry in
    c.as_slice.ensures.value ∙ c.in_ok-paths.ensures ∙ sym c.tasks.ensures.tasks ∙ c.tasks.ensures.registered ∙ sym (paths_said tables source) ∙ ap paths_of (sym same)

pub returns-clause-found : goal.returns-clause-found
returns-clause-found g c =
    let F = g.F.Folder in
    let known = F.device.faithful c.find-found.new.folder in
    let source : Source = c.args.configured.now.registry in
    let tables = tables_of g.T.Transforms.meanings g.A.Actions.meanings c.args.configured.now.tables.now in
    let declared = registry_in g.T.Transforms.meanings g.A.Actions.meanings c.in_ok-tasks.tasks.workspace in
    let same : declared ≡ registry_said tables source = c.in_ok-tasks.ensures.registry in
    let Found : Names → Registry → Type 0 = λ names registry. IfOk c.find-found.result (AreFindings tables names known (F.device.contents c.args.folder.now) registry (scripts_in c.args.scripts.now)) in
    let named : (projects tasks : List Path) → Names = λ projects tasks. record { projects = projects; tasks = tasks } in
    subst (λ (registry : Registry). Found source.names registry) same
    (subst (λ (tasks : List Path). Found (named source.names.projects tasks) declared) (c.paths.ensures ∙ c.tasks.ensures.tasks)
    (subst (λ (projects : List Path). Found (named projects c.paths.result.now) declared) c.projects.ensures
    c.find-found.ensures.findings))
