use Rattle.std.proofs.Common.{◌≡◌, ap, subst, sym, ◌∙◌}
use Rattle.std.specs.Prelude.{string_bytes}
use Rattle.gb_plan.specs.Graph.{Registry, paths_of}
use Rattle.gb_query.specs.Notation.{IsFoundText}
use Rattle.gb_query.specs.Search.{found_in}
use Rattle.gb_registry.specs.Source.{Source}
use Rattle.gb_registry.specs.Tables.{tables_of}
use Rattle.gb_declare.specs.Registered.{registry_said}
use Rattle.gb_project.proofs.SoundLemmas.{paths_said}
use Rattle.gb_project.specs.Scripts.{registry_in}
use Rattle.gb_ask_command.proofs.place_query.search_registered.Goals as goal

pub search_text-requires : goal.search_text-requires
search_text-requires g c =
    let tasks = c.in_ok-tasks.tasks in
    let source : Source = c.args.configured.now.registry in
    let tables = tables_of g.T.Transforms.meanings g.A.Actions.meanings c.args.configured.now.tables.now in
    let same : registry_in g.T.Transforms.meanings g.A.Actions.meanings tasks.workspace ≡ registry_said tables source = c.in_ok-tasks.ensures.registry in
    c.as_slice-paths.ensures.value ∙ c.in_ok-names.ensures ∙ sym c.tasks-registered.ensures.tasks ∙ c.tasks-registered.ensures.registered ∙ sym (paths_said tables source) ∙ ap paths_of (sym same)

pub returns-clause-text : goal.returns-clause-text
returns-clause-text g c =
    let notation = c.args.notation in
    let relation = c.args.relation in
    let place = c.args.place.now in
    let tables = tables_of g.T.Transforms.meanings g.A.Actions.meanings c.args.configured.now.tables.now in
    let same : registry_in g.T.Transforms.meanings g.A.Actions.meanings c.in_ok-tasks.tasks.workspace ≡ registry_said tables c.args.configured.now.registry = c.in_ok-tasks.ensures.registry in
    subst (λ (registry : Registry). IsFoundText notation relation (found_in relation place registry) (string_bytes c.in_ok-text.text)) same c.in_ok-text.ensures
