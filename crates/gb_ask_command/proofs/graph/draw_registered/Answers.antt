use Rattle.std.proofs.Common.{◌≡◌, List, inl, subst, sym}
use Rattle.std.proofs.lemmas.Result.{err_from_is_err_and}
use Rattle.std.specs.Prelude.{IfErr, IfOk, string_bytes}
use Rattle.gb_graph.specs.Answer.{IsRefusalOf}
use Rattle.gb_plan.specs.Graph.{Registry}
use Rattle.gb_plan.specs.Task.{Text}
use Rattle.gb_registry.specs.Tables.{tables_of}
use Rattle.gb_declare.specs.Registered.{registry_said}
use Rattle.gb_project.specs.Scripts.{registry_in}
use Rattle.gb_ask_command.specs.Graph.{IsDrawing}
use Rattle.gb_ask_command.specs.Reply.{Reply}
use Rattle.gb_ask_command.proofs.graph.draw_registered.Goals as goal

pub returns-in_err-tasks-clause-fault : goal.returns-in_err-tasks-clause-fault
returns-in_err-tasks-clause-fault g c =
    let invocation = c.args.invocation.now in
    let tables = tables_of g.T.Transforms.meanings g.A.Actions.meanings c.args.configured.now.tables.now in
    let p = err_from_is_err_and c.from_residual.result c.from_residual.ensures.1 in
    subst (λ (r : Reply). IfErr r (IsRefusalOf (registry_said tables c.args.configured.now.registry) invocation.requested invocation.excluded)) (sym p.1) (inl p.2)

pub returns-clause-drawing : goal.returns-clause-drawing
returns-clause-drawing g c =
    let invocation = c.args.invocation.now in
    let style = c.args.style in
    let predicted = c.args.predicted.now in
    let tables = tables_of g.T.Transforms.meanings g.A.Actions.meanings c.args.configured.now.tables.now in
    let declared = registry_in g.T.Transforms.meanings g.A.Actions.meanings c.in_ok-tasks.tasks.workspace in
    let same : declared ≡ registry_said tables c.args.configured.now.registry = c.in_ok-tasks.ensures.registry in
    subst (λ (registry : Registry). IfOk c.draw_requested.result (λ text. IsDrawing style predicted registry invocation.requested invocation.excluded (string_bytes text))) same
    (subst (λ (words : List Text). IfOk c.draw_requested.result (λ text. IsDrawing style predicted declared invocation.requested words (string_bytes text))) c.as_slice-excluded.ensures
    (subst (λ (words : List Text). IfOk c.draw_requested.result (λ text. IsDrawing style predicted declared words c.as_slice-excluded.result.now (string_bytes text))) c.as_slice-requested.ensures
    c.draw_requested.ensures.drawing))

pub returns-clause-fault : goal.returns-clause-fault
returns-clause-fault g c =
    let invocation = c.args.invocation.now in
    let tables = tables_of g.T.Transforms.meanings g.A.Actions.meanings c.args.configured.now.tables.now in
    let declared = registry_in g.T.Transforms.meanings g.A.Actions.meanings c.in_ok-tasks.tasks.workspace in
    let same : declared ≡ registry_said tables c.args.configured.now.registry = c.in_ok-tasks.ensures.registry in
    subst (λ (registry : Registry). IfErr c.draw_requested.result (IsRefusalOf registry invocation.requested invocation.excluded)) same
    (subst (λ (words : List Text). IfErr c.draw_requested.result (IsRefusalOf declared invocation.requested words)) c.as_slice-excluded.ensures
    (subst (λ (words : List Text). IfErr c.draw_requested.result (IsRefusalOf declared words c.as_slice-excluded.result.now)) c.as_slice-requested.ensures
    c.draw_requested.ensures.fault))
