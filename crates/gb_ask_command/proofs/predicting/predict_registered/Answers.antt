use Rattle.std.proofs.Common.{◌≡◌, List, IfErr, IfOk, inl, sym, subst}
use Rattle.std.proofs.lemmas.Result.{err_from_is_err_and}
use Rattle.gb_build.proofs.Buildable.{are_buildable}
use Rattle.gb_build.specs.Asking.{AreBuildable}
use Rattle.gb_semantics.specs.Edits.{Shown}
use Rattle.gb_plan.specs.Graph.{IsRegistry, Registry}
use Rattle.gb_plan.specs.Task.{Text}
use Rattle.gb_declare.specs.Registered.{registry_said}
use Rattle.gb_registry.specs.SoFar.{scripts_in}
use Rattle.gb_registry.specs.Tables.{tables_of}
use Rattle.gb_project.specs.Scripts.{registry_in}
use Rattle.gb_ask_command.specs.Reported.{Answer, AreReportedOf, IsNotReported}
use Rattle.gb_ask_command.proofs.Reported.{ok_always, shows}
use Rattle.gb_ask_command.proofs.predicting.predict_registered.Goals as goal

pub returns-in_err-tasks-clause-not_reported : goal.returns-in_err-tasks-clause-not_reported
returns-in_err-tasks-clause-not_reported g c =
    let failures = g.F.Folder.device.failures c.args.folder.now in
    let tables = tables_of g.T.Transforms.meanings g.A.Actions.meanings c.args.configured.now.tables.now in
    let p = err_from_is_err_and c.from_residual.result c.from_residual.ensures.1 in
    subst (λ (r : Answer). IfErr r (IsNotReported (registry_said tables c.args.configured.now.registry) c.args.invocation.now.requested c.args.invocation.now.excluded failures failures)) (sym p.1)
    (inl (inl p.2))

pub predict_requested-requires : goal.predict_requested-requires
predict_requested-requires g c =
    let tables = tables_of g.T.Transforms.meanings g.A.Actions.meanings c.args.configured.now.tables.now in
    let same : registry_in g.T.Transforms.meanings g.A.Actions.meanings c.in_ok-tasks.tasks.workspace ≡ registry_said tables c.args.configured.now.registry = c.in_ok-tasks.ensures.registry in
    subst (AreBuildable g.A.Actions.meanings c.args.configured.now.tables.now.actions) (sym same)
    (are_buildable tables c.args.configured.now.registry (scripts_in c.scripts-scripts.result.now) c.scripts-scripts.ensures.read (subst IsRegistry same c.in_ok-tasks.tasks.ordered))

pub returns-clause-sound : goal.returns-clause-sound
returns-clause-sound g c =
    let tables = tables_of g.T.Transforms.meanings g.A.Actions.meanings c.args.configured.now.tables.now in
    let same : registry_in g.T.Transforms.meanings g.A.Actions.meanings c.in_ok-tasks.tasks.workspace ≡ registry_said tables c.args.configured.now.registry = c.in_ok-tasks.ensures.registry in
    ok_always (IsRegistry (registry_said tables c.args.configured.now.registry)) c.predict_requested.result (subst IsRegistry same c.in_ok-tasks.tasks.ordered)

pub returns-clause-reported : goal.returns-clause-reported
returns-clause-reported g c =
    let F = g.F.Folder in
    let known = F.device.faithful c.predict_requested.new.folder in
    let meanings = g.A.Actions.meanings in
    let rows = c.args.configured.now.tables.now.actions in
    let invocation = c.args.invocation.now in
    let tables = tables_of g.T.Transforms.meanings meanings c.args.configured.now.tables.now in
    let declared = registry_in g.T.Transforms.meanings meanings c.in_ok-tasks.tasks.workspace in
    let same : declared ≡ registry_said tables c.args.configured.now.registry = c.in_ok-tasks.ensures.registry in
    let old : Shown = shows (F.device.contents c.args.folder.now) (F.device.failures c.args.folder.now) in
    let after = F.device.failures c.predict_requested.new.folder in
    let result : Answer = c.predict_requested.result in
    subst (λ (registry : Registry). IfOk result (λ reported. AreReportedOf known meanings rows registry invocation.requested invocation.excluded invocation.options old after reported.items)) same
    (subst (λ (words : List Text). IfOk result (λ reported. AreReportedOf known meanings rows declared invocation.requested words invocation.options old after reported.items)) c.as_slice-excluded.ensures
    (subst (λ (words : List Text). IfOk result (λ reported. AreReportedOf known meanings rows declared words c.as_slice-excluded.result.now invocation.options old after reported.items)) c.as_slice-requested.ensures
    c.predict_requested.ensures.reported))

pub returns-clause-not_reported : goal.returns-clause-not_reported
returns-clause-not_reported g c =
    let F = g.F.Folder in
    let invocation = c.args.invocation.now in
    let tables = tables_of g.T.Transforms.meanings g.A.Actions.meanings c.args.configured.now.tables.now in
    let declared = registry_in g.T.Transforms.meanings g.A.Actions.meanings c.in_ok-tasks.tasks.workspace in
    let same : declared ≡ registry_said tables c.args.configured.now.registry = c.in_ok-tasks.ensures.registry in
    let before = F.device.failures c.args.folder.now in
    let after = F.device.failures c.predict_requested.new.folder in
    let result : Answer = c.predict_requested.result in
    subst (λ (registry : Registry). IfErr result (IsNotReported registry invocation.requested invocation.excluded before after)) same
    (subst (λ (words : List Text). IfErr result (IsNotReported declared invocation.requested words before after)) c.as_slice-excluded.ensures
    (subst (λ (words : List Text). IfErr result (IsNotReported declared words c.as_slice-excluded.result.now before after)) c.as_slice-requested.ensures
    c.predict_requested.ensures.not_reported))
