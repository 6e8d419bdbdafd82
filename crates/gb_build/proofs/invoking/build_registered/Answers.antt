use Rattle.std.proofs.Common.{◌≡◌, ◌&&◌, ◌∙◌, ℕ, List, Result, Ok, Err, IsTrue, IfErr, arith, inl, not, refl, subst, sym}
use Rattle.std.specs.Prelude.{OnOk}
use Rattle.gb_folder.specs.Files.{is_own}
use Rattle.std.proofs.lemmas.Result.{err_from_is_err_and}
use Rattle.gb_build.specs.Asking.{AreBuildable, NoneBlameDevice}
use Rattle.gb_semantics.specs.Edits.{Shown}
use Rattle.gb_build.specs.Leading.{IsTransition}
use Rattle.gb_build.specs.Refusing.{IsNotBegun}
use Rattle.gb_build.proofs.Refusing.{refused_at}
use Rattle.gb_report.specs.declared.fault.Fault.{Fault}
use Rattle.gb_report.specs.declared.fault.Fault.TheVariants as faults
use Rattle.gb_build.proofs.Keeping.{each_fault, of_fault}
use Rattle.gb_semantics.specs.declared.events.Event.TheVariants as events
use Rattle.gb_semantics.specs.Headline.{KeepsElsewhere, answer_of}
use Rattle.gb_plan.specs.Graph.{IsRegistry, Registry}
use Rattle.gb_registry.specs.SoFar.{scripts_in}
use Rattle.gb_registry.specs.Tables.{tables_of}
use Rattle.gb_task.specs.Executing.{setting_with}
use Rattle.gb_declare.specs.Registered.{registry_said}
use Rattle.gb_project.specs.Scripts.{registry_in}
use Rattle.gb_build.proofs.Blamed.{memory_blames_none}
use Rattle.gb_build.proofs.BlamelessTasks.{declared_blame_none}
use Rattle.gb_build.proofs.Buildable.{are_buildable}
use Rattle.gb_build.proofs.Passing.{out_of_memory}
use Rattle.gb_folder.proofs.Asked.{requests_nothing}
use Rattle.gb_build.proofs.Asking.{refused_requests}
use Rattle.gb_build.specs.RequestAsked.{BuildRequests}
use Rattle.gb_build.proofs.invoking.build_registered.Goals as goal

pub returns-in_err-tasks-clause-leads : goal.returns-in_err-tasks-clause-leads
returns-in_err-tasks-clause-leads g c = λ faithful kinds assumed.
    let F = g.F.Folder in
    let tables = tables_of g.T.Transforms.meanings g.A.Actions.meanings c.args.configured.now.tables.now in
    let old : Shown = record { contents = F.device.contents c.args.folder.now; failures = F.device.failures c.args.folder.now } in
    let p = err_from_is_err_and c.from_residual.result c.from_residual.ensures.1 in
    out_of_memory (setting_with kinds (λ files given. Ok (registry_said tables c.args.configured.now.registry)) (F.device.may_leave c.args.folder.now)) old old c.args.invocation.now p.0 p.2
    refl c.from_residual.result p.1

pub build_requested-answered-requires : goal.build_requested-answered-requires
build_requested-answered-requires g c =
    let tables = tables_of g.T.Transforms.meanings g.A.Actions.meanings c.args.configured.now.tables.now in
    let same : registry_in g.T.Transforms.meanings g.A.Actions.meanings c.in_ok-tasks.tasks.workspace ≡ registry_said tables c.args.configured.now.registry = c.in_ok-tasks.ensures.registry in
    subst (AreBuildable g.A.Actions.meanings c.args.configured.now.tables.now.actions) (sym same)
    (are_buildable tables c.args.configured.now.registry (scripts_in c.scripts-scripts.result.now) c.scripts-scripts.ensures.read (subst IsRegistry same c.in_ok-tasks.tasks.ordered))

pub returns-clause-leads : goal.returns-clause-leads
returns-clause-leads g c = λ faithful kinds assumed.
    let F = g.F.Folder in
    let tables = tables_of g.T.Transforms.meanings g.A.Actions.meanings c.args.configured.now.tables.now in
    let declared = registry_in g.T.Transforms.meanings g.A.Actions.meanings c.in_ok-tasks.tasks.workspace in
    let same : declared ≡ registry_said tables c.args.configured.now.registry = c.in_ok-tasks.ensures.registry in
    let old : Shown = record { contents = F.device.contents c.args.folder.now; failures = F.device.failures c.args.folder.now } in
    let new : Shown = record { contents = F.device.contents c.build_requested-answered.new.folder; failures = F.device.failures c.build_requested-answered.new.folder } in
    subst (λ (registry : Registry). IsTransition (setting_with kinds (λ files given. Ok registry) (F.device.may_leave c.args.folder.now)) old (events.Invoke c.args.invocation.now) (answer_of c.build_requested-answered.result) new) same
    (c.build_requested-answered.ensures.leads faithful kinds (λ files given. Ok declared) assumed refl)

pub returns-clause-keeps : goal.returns-clause-keeps
returns-clause-keeps g c = λ faithful.
    let F = g.F.Folder in
    let tables = tables_of g.T.Transforms.meanings g.A.Actions.meanings c.args.configured.now.tables.now in
    let declared = registry_in g.T.Transforms.meanings g.A.Actions.meanings c.in_ok-tasks.tasks.workspace in
    let same : declared ≡ registry_said tables c.args.configured.now.registry = c.in_ok-tasks.ensures.registry in
    let changes = c.build_requested-answered.ensures.elsewhere faithful in
    subst (λ (registry : Registry). KeepsElsewhere registry (F.device.contents c.args.folder.now) (F.device.contents c.build_requested-answered.new.folder)) same (changes.elsewhere, changes.special)

pub returns-in_err-tasks-clause-keeps : goal.returns-in_err-tasks-clause-keeps
returns-in_err-tasks-clause-keeps g c = λ faithful. (refl, refl)

pub returns-in_err-tasks-clause-device : goal.returns-in_err-tasks-clause-device
returns-in_err-tasks-clause-device g c =
    let F = g.F.Folder in
    let p = err_from_is_err_and c.from_residual.result c.from_residual.ensures.1 in
    memory_blames_none c.from_residual.result p.0 (F.device.failures c.args.folder.now) (F.device.failures c.args.folder.now) (omega arith) p.1 p.2

pub returns-clause-device : goal.returns-clause-device
returns-clause-device g c =
    let tables = tables_of g.T.Transforms.meanings g.A.Actions.meanings c.args.configured.now.tables.now in
    let same : registry_in g.T.Transforms.meanings g.A.Actions.meanings c.in_ok-tasks.tasks.workspace ≡ registry_said tables c.args.configured.now.registry = c.in_ok-tasks.ensures.registry in
    c.build_requested-answered.ensures.device (subst NoneBlameDevice (sym same) (declared_blame_none tables c.args.configured.now.registry))

pub returns-in_err-tasks-clause-places : goal.returns-in_err-tasks-clause-places
returns-in_err-tasks-clause-places g c =
    let p = err_from_is_err_and c.from_residual.result c.from_residual.ensures.1 in
    of_fault (λ (fault : Fault). (place : List ℕ) → fault ≡ faults.Device place → IsTrue (is_own place && not c.args.invocation.now.options.dry_run)) c.from_residual.result p.0 p.1
    (λ place is. absurd (no_device place (sym p.2 ∙ is)))
  where
    no_device : (place : List ℕ) → faults.OutOfMemory ≡ faults.Device place → ⊥
    no_device place e = cc

pub returns-in_err-tasks-clause-not_begun : goal.returns-in_err-tasks-clause-not_begun
returns-in_err-tasks-clause-not_begun g c =
    let F = g.F.Folder in
    let tables = tables_of g.T.Transforms.meanings g.A.Actions.meanings c.args.configured.now.tables.now in
    let p = err_from_is_err_and c.from_residual.result c.from_residual.ensures.1 in
    of_fault (IsNotBegun (registry_said tables c.args.configured.now.registry) c.args.invocation.now (F.device.failures c.args.folder.now) (F.device.failures c.args.folder.now)) c.from_residual.result p.0 p.1
    (inl (inl p.2))

pub returns-clause-not_begun : goal.returns-clause-not_begun
returns-clause-not_begun g c =
    let F = g.F.Folder in
    let tables = tables_of g.T.Transforms.meanings g.A.Actions.meanings c.args.configured.now.tables.now in
    let same : registry_in g.T.Transforms.meanings g.A.Actions.meanings c.in_ok-tasks.tasks.workspace ≡ registry_said tables c.args.configured.now.registry = c.in_ok-tasks.ensures.registry in
    subst (λ (registry : Registry). IfErr c.build_requested-answered.result
    (IsNotBegun registry c.args.invocation.now (F.device.failures c.args.folder.now) (F.device.failures c.build_requested-answered.new.folder))) same c.build_requested-answered.ensures.not_begun

pub returns-clause-places : goal.returns-clause-places
returns-clause-places g c =
    let F = g.F.Folder in
    let tables = tables_of g.T.Transforms.meanings g.A.Actions.meanings c.args.configured.now.tables.now in
    let before = F.device.failures c.args.folder.now in
    let after = F.device.failures c.build_requested-answered.new.folder in
    let registry = registry_said tables c.args.configured.now.registry in
    each_fault (IsNotBegun registry c.args.invocation.now before after) (λ (fault : Fault). (place : List ℕ) → fault ≡ faults.Device place → IsTrue (is_own place && not c.args.invocation.now.options.dry_run))
    (λ fault why. refused_at registry c.args.invocation.now fault before after (declared_blame_none tables c.args.configured.now.registry) why)
    c.build_requested-answered.result (returns-clause-not_begun g c)

pub returns-clause-requests : goal.returns-clause-requests
returns-clause-requests g c =
    let F = g.F.Folder in
    let answered = c.build_requested-answered in
    subst (λ (registry : Registry). BuildRequests F.device g.A.Actions.meanings c.args.configured.now.tables.now.actions registry c.args.invocation.now answered.result c.args.folder.now answered.new.folder)
    c.in_ok-tasks.ensures.registry answered.ensures.requests

pub returns-in_err-tasks-clause-requests : goal.returns-in_err-tasks-clause-requests
returns-in_err-tasks-clause-requests g c =
    let p = err_from_is_err_and c.from_residual.result c.from_residual.ensures.1 in
    let tables = tables_of g.T.Transforms.meanings g.A.Actions.meanings c.args.configured.now.tables.now in
    refused_requests g.A.Actions.meanings c.args.configured.now.tables.now.actions (registry_said tables c.args.configured.now.registry) c.args.invocation.now c.from_residual.result p.0 c.args.folder.now c.args.folder.now p.1
    (requests_nothing c.args.folder.now)

if_ok : {X E : Type 0} (r : Result X E) (P : Type 0) → P → OnOk r P
if_ok (Ok x) P p = p
if_ok (Err fault) P p = tt

pub returns-clause-buildable : goal.returns-clause-buildable
returns-clause-buildable g c =
    let tables = tables_of g.T.Transforms.meanings g.A.Actions.meanings c.args.configured.now.tables.now in
    let same : registry_in g.T.Transforms.meanings g.A.Actions.meanings c.in_ok-tasks.tasks.workspace ≡ registry_said tables c.args.configured.now.registry = c.in_ok-tasks.ensures.registry in
    let sound = subst IsRegistry same c.in_ok-tasks.tasks.ordered in
    if_ok c.build_requested-answered.result _
    (sound, are_buildable tables c.args.configured.now.registry (scripts_in c.scripts-scripts.result.now) c.scripts-scripts.ensures.read sound)
