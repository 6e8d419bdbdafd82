use Rattle.std.proofs.Common.{◌≡◌, ◌&&◌, ◌∙◌, ℕ, List, IfErr, IsTrue, OnErr, ap, arith, inl, inr, not, refl, subst, sym}
use Rattle.std.specs.Prelude.{OnOk}
use Rattle.std.proofs.lemmas.Result.{err_from_is_err_and}
use Rattle.gb_folder.specs.Files.{Contents, is_own}
use Rattle.gb_folder.proofs.Asked.{requests_nothing}
use Rattle.gb_declare.specs.Registered.{registry_said}
use Rattle.gb_semantics.specs.Edits.{Shown}
use Rattle.gb_semantics.specs.Events.{IsNotBuilt, is_read_first}
use Rattle.gb_semantics.specs.Headline.{KeepsElsewhere, answer_of, times_attributed}
use Rattle.gb_semantics.specs.declared.events.Event.TheVariants as events
use Rattle.gb_plan.specs.Graph.{IsRegistry}
use Rattle.gb_records.specs.Assumed.{IsAssumed}
use Rattle.gb_records.specs.Setting.{setting_by}
use Rattle.gb_registry.specs.Tables.{tables_of}
use Rattle.gb_registry.specs.declared.tables.Tables as handed
use Rattle.gb_report.specs.declared.fault.Fault.{Fault}
use Rattle.gb_report.specs.declared.fault.Fault.TheVariants as faults
use Rattle.gb_task.proofs.Recorded.{assumed_later}
use Rattle.gb_build.specs.Asking.{AreBuildable}
use Rattle.gb_build.specs.Leading.{IsTransition}
use Rattle.gb_build.specs.Refusing.{IsNotBegun}
use Rattle.gb_build.specs.InvocationAsked.{InvocationRequests}
use Rattle.gb_build.specs.RequestAsked.{BuildRequests}
use Rattle.gb_build.specs.Registering.{registers_in}
use Rattle.gb_build.proofs.Blamed.{failed_since, memory_blames_none, reading_fails}
use Rattle.gb_build.proofs.InvocationAsked.{build_keeps, declared_requests, invocation_calls}
use Rattle.gb_build.proofs.Keeping.{begun_before, each_fault, invoked_keeps}
use Rattle.gb_build.proofs.Passing.{always, shows, since_read}
use Rattle.gb_build.proofs.Promised.{promised, refusal_does, refusal_promised}
use Rattle.gb_build.proofs.Readings.{not_read, own_is_read_first, read_first, registered}
use Rattle.gb_build.proofs.Refusing.{not_built}
use Rattle.gb_build.proofs.invoking.invoke.Goals as goal

-- ---- Memory ran out

pub returns-in_err-copied-clause-does : goal.returns-in_err-copied-clause-does
returns-in_err-copied-clause-does g c =
    let F = g.F.Folder in
    let p = err_from_is_err_and c.from_residual.result c.from_residual.ensures.1 in
    refusal_does F.device (tables_of g.T.Transforms.meanings g.A.Actions.meanings c.args.tables.now) c.args.invocation.now c.from_residual.result c.args.folder.now c.args.folder.now
    p.0 p.1 (requests_nothing c.args.folder.now)
    (memory_blames_none c.from_residual.result p.0 (F.device.failures c.args.folder.now) (F.device.failures c.args.folder.now) (omega arith) p.1 p.2)
    (λ place is. absurd (no_device place (sym p.2 ∙ is)))
  where
    no_device : (place : List ℕ) → faults.OutOfMemory ≡ faults.Device place → ⊥
    no_device place e = cc

pub returns-in_err-copied-clause-promise : goal.returns-in_err-copied-clause-promise
returns-in_err-copied-clause-promise g c = λ faithful.
    let F = g.F.Folder in
    let old : Shown = shows (F.device.contents c.args.folder.now) (F.device.failures c.args.folder.now) in
    let p = err_from_is_err_and c.from_residual.result c.from_residual.ensures.1 in
    refusal_promised (tables_of g.T.Transforms.meanings g.A.Actions.meanings c.args.tables.now) (F.device.may_leave c.args.folder.now) c.args.invocation.now old c.from_residual.result old (omega arith)
    p.0 p.1 refl (inr (inr (inl p.2)))

-- ---- The scripts could not be read

pub returns-in_err-configured-clause-does : goal.returns-in_err-configured-clause-does
returns-in_err-configured-clause-does g c =
    let F = g.F.Folder in
    let result = c.from_residual-in_err-configured.result in
    let p = err_from_is_err_and result c.from_residual-in_err-configured.ensures.1 in
    let read = c.read_registry in
    refusal_does F.device (tables_of g.T.Transforms.meanings g.A.Actions.meanings c.args.tables.now) c.args.invocation.now result c.args.folder.now read.new.folder
    p.0 p.1 read.ensures.reads.requests
    (reading_fails read.result c.in_err-configured.field-0.0 p.0 (F.device.failures c.args.folder.now) (F.device.failures read.new.folder) read.ensures.reads.requests.count c.in_err-configured.was p.2 read.ensures.blame result p.1)
    (read_first c.args.invocation.now read.result c.in_err-configured.field-0.0 p.0 c.in_err-configured.was p.2 read.ensures.blamed)

pub returns-in_err-configured-clause-promise : goal.returns-in_err-configured-clause-promise
returns-in_err-configured-clause-promise g c = λ faithful.
    let F = g.F.Folder in
    let tables = tables_of g.T.Transforms.meanings g.A.Actions.meanings c.args.tables.now in
    let read = c.read_registry in
    let old : Shown = shows (F.device.contents c.args.folder.now) (F.device.failures c.args.folder.now) in
    let new : Shown = shows (F.device.contents read.new.folder) (F.device.failures read.new.folder) in
    let p = err_from_is_err_and c.from_residual-in_err-configured.result c.from_residual-in_err-configured.ensures.1 in
    refusal_promised tables (F.device.may_leave c.args.folder.now) c.args.invocation.now old c.from_residual-in_err-configured.result new read.ensures.reads.requests.count
    p.0 p.1 (read.ensures.reads.same faithful)
    (not_read tables old.contents c.args.invocation.now (c.into_vec-given.result.items) (c.into_vec-given.ensures ∙ c.in_ok-copied.ensures)
    read.result c.in_err-configured.field-0.0 p.0 old.failures new.failures c.in_err-configured.was p.2 read.ensures.blamed (c.in_err-configured.ensures.said faithful)
    old refl refl)

-- ---- The tasks were registered

pub returns-clause-does : goal.returns-clause-does
returns-clause-does g c =
    let F = g.F.Folder in
    let means = g.T.Transforms.meanings in
    let meanings = g.A.Actions.meanings in
    let tables = tables_of means meanings c.args.tables.now in
    let source = c.in_ok-configured.configured.registry in
    let answered = c.build_registered-answered in
    let old = c.args.folder.now in
    let begun = c.read_registry.new.folder in
    let new = answered.new.folder in
    let requests : InvocationRequests F.device tables c.args.invocation.now answered.result old new =
    declared_requests F.device tables c.args.invocation.now answered.result source c.into_vec-given.result.items old begun new
    (c.into_vec-given.ensures ∙ c.in_ok-copied.ensures) c.read_registry.ensures.reads.requests c.in_ok-configured.ensures.declared
    (subst (λ (given : handed.Tables _ _ _ _ _ _ _). OnOk answered.result (IsRegistry (registry_said (tables_of means meanings given) source) × AreBuildable meanings given.actions (registry_said (tables_of means meanings given) source)))
    c.in_ok-configured.ensures.tables answered.ensures.buildable)
    (subst (λ (given : handed.Tables _ _ _ _ _ _ _). BuildRequests F.device meanings given.actions (registry_said (tables_of means meanings given) source) c.args.invocation.now answered.result begun new)
    c.in_ok-configured.ensures.tables answered.ensures.requests) in
    record {
      requests = requests;
      calls = invocation_calls F.device tables c.args.invocation.now answered.result old new requests;
      places =
          each_fault (λ (fault : Fault). (place : List ℕ) → fault ≡ faults.Device place → IsTrue (is_own place && not c.args.invocation.now.options.dry_run))
          (λ (fault : Fault). (place : List ℕ) → fault ≡ faults.Device place → IsTrue (is_read_first c.args.invocation.now.options place))
          (λ fault at place is. own_is_read_first c.args.invocation.now place (at place is))
          c.build_registered-answered.result c.build_registered-answered.ensures.places;
      blame =
          let F = g.F.Folder in
          failed_since (times_attributed (answer_of c.build_registered-answered.result)) (F.device.failures c.args.folder.now) (F.device.failures c.read_registry.new.folder) (F.device.failures c.build_registered-answered.new.folder)
          c.read_registry.ensures.reads.requests.count c.build_registered-answered.ensures.device;
    }

pub returns-clause-promise : goal.returns-clause-promise
returns-clause-promise g c = λ faithful.
    let F = g.F.Folder in
    let answered = c.build_registered-answered in
    let kept = build_keeps F.device g.A.Actions.meanings c.in_ok-configured.configured.tables.now.actions
    (registry_said (tables_of g.T.Transforms.meanings g.A.Actions.meanings c.in_ok-configured.configured.tables.now) c.in_ok-configured.configured.registry) c.args.invocation.now
    answered.result c.read_registry.new.folder answered.new.folder answered.ensures.requests in
    promised (tables_of g.T.Transforms.meanings g.A.Actions.meanings c.args.tables.now) (F.device.may_leave c.args.folder.now) c.args.invocation.now
    (shows (F.device.contents c.args.folder.now) (F.device.failures c.args.folder.now)) answered.result (shows (F.device.contents answered.new.folder) (F.device.failures answered.new.folder))
    (omega (arith, c.read_registry.ensures.reads.requests.count, kept.count))
    (
    let F = g.F.Folder in
    let tables = tables_of g.T.Transforms.meanings g.A.Actions.meanings c.args.tables.now in
    let source = c.in_ok-configured.configured.registry in
    let old : Shown = shows (F.device.contents c.args.folder.now) (F.device.failures c.args.folder.now) in
    let later = F.device.failures c.read_registry.new.folder in
    let after = F.device.failures c.build_registered-answered.new.folder in
    each_fault (IsNotBegun (registry_said tables source) c.args.invocation.now later after) (λ (fault : Fault). IsNotBuilt (registers_in tables) old c.args.invocation.now fault after)
    (λ fault why. not_built (registers_in tables) (registry_said tables source) old c.args.invocation.now fault after
    (registered tables old.contents c.into_vec-given.result.items c.args.invocation.now.properties (c.into_vec-given.ensures ∙ c.in_ok-copied.ensures) source (c.in_ok-configured.ensures.said (kept.back faithful)))
    (begun_before (registry_said tables source) c.args.invocation.now old.failures later after c.read_registry.ensures.reads.requests.count kept.count fault why))
    c.build_registered-answered.result
    (subst (λ (given : handed.Tables _ _ _ _ _ _ _). IfErr c.build_registered-answered.result
    (IsNotBegun (registry_said (tables_of g.T.Transforms.meanings g.A.Actions.meanings given) source) c.args.invocation.now later after))
    c.in_ok-configured.ensures.tables c.build_registered-answered.ensures.not_begun))
    (subst (λ (contents : Contents). OnErr answered.result (F.device.contents answered.new.folder ≡ contents)) (c.read_registry.ensures.reads.same (kept.back faithful)) (answered.ensures.refused faithful))
    (λ dry.
    ap g.F.Folder.device.contents (c.build_registered-answered.ensures.dry dry) ∙ c.read_registry.ensures.reads.same (kept.back faithful))
    (
    let F = g.F.Folder in
    let tables = tables_of g.T.Transforms.meanings g.A.Actions.meanings c.args.tables.now in
    let source = c.in_ok-configured.configured.registry in
    let before = F.device.contents c.args.folder.now in
    invoked_keeps (registers_in tables) c.args.invocation.now c.build_registered-answered.result before (F.device.contents c.build_registered-answered.new.folder) (registry_said tables source)
    (registered tables before c.into_vec-given.result.items c.args.invocation.now.properties (c.into_vec-given.ensures ∙ c.in_ok-copied.ensures) source (c.in_ok-configured.ensures.said (kept.back faithful)))
    (subst (λ (contents : Contents). KeepsElsewhere (registry_said tables source) contents (F.device.contents c.build_registered-answered.new.folder)) (c.read_registry.ensures.reads.same (kept.back faithful))
    (subst (λ (given : handed.Tables _ _ _ _ _ _ _). KeepsElsewhere (registry_said (tables_of g.T.Transforms.meanings g.A.Actions.meanings given) source)
    (F.device.contents c.read_registry.new.folder) (F.device.contents c.build_registered-answered.new.folder))
    c.in_ok-configured.ensures.tables (c.build_registered-answered.ensures.keeps faithful)))
    (subst (λ (contents : Contents). OnErr c.build_registered-answered.result (F.device.contents c.build_registered-answered.new.folder ≡ contents)) (c.read_registry.ensures.reads.same (kept.back faithful))
    (c.build_registered-answered.ensures.refused faithful)))
    (λ kinds assumed.
    let F = g.F.Folder in
    let same = c.in_ok-configured.ensures.tables in
    let tables = tables_of g.T.Transforms.meanings g.A.Actions.meanings c.args.tables.now in
    let first = F.device.may_leave c.args.folder.now in
    let second = F.device.may_leave c.read_registry.new.folder in
    let source = c.in_ok-configured.configured.registry in
    let before = F.device.contents c.args.folder.now in
    let later = F.device.failures c.read_registry.new.folder in
    let new : Shown = shows (F.device.contents c.build_registered-answered.new.folder) (F.device.failures c.build_registered-answered.new.folder) in
    since_read kinds (registry_said tables source) (registers_in tables) first second c.read_registry.ensures.reads.requests.tearing c.args.invocation.now before (F.device.failures c.args.folder.now) later
    c.read_registry.ensures.reads.requests.count
    (registered tables before c.into_vec-given.result.items c.args.invocation.now.properties (c.into_vec-given.ensures ∙ c.in_ok-copied.ensures) source (c.in_ok-configured.ensures.said (kept.back faithful)))
    c.build_registered-answered.result new kept.count
    (subst (λ (contents : Contents). IsTransition (setting_by kinds (always (registry_said tables source)) second) (shows contents later) (events.Invoke c.args.invocation.now) (answer_of c.build_registered-answered.result) new)
    (c.read_registry.ensures.reads.same (kept.back faithful))
    (subst (λ (given : handed.Tables _ _ _ _ _ _ _). IsTransition (setting_by kinds (always (registry_said (tables_of g.T.Transforms.meanings g.A.Actions.meanings given) source)) second)
    (shows (F.device.contents c.read_registry.new.folder) later) (events.Invoke c.args.invocation.now) (answer_of c.build_registered-answered.result) new)
    same
    (c.build_registered-answered.ensures.leads faithful kinds
    (subst (λ (given : handed.Tables _ _ _ _ _ _ _). IsAssumed g.A.Actions.meanings given.actions kinds second) (sym same)
    (assumed_later first second c.read_registry.ensures.reads.requests.tearing assumed))))))
