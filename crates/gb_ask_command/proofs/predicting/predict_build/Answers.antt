use Rattle.std.proofs.Common.{◌∙◌, IfErr, IfOk, inl, inr, refl, sym, subst}
use Rattle.std.proofs.lemmas.Result.{err_from_is_err_and}
use Rattle.gb_folder.specs.Files.{Contents}
use Rattle.gb_build.proofs.Readings.{not_read, registered}
use Rattle.gb_semantics.specs.Edits.{Shown}
use Rattle.gb_plan.specs.Graph.{IsRegistry, Registry}
use Rattle.gb_declare.specs.Registered.{registry_said}
use Rattle.gb_registry.specs.Tables.{tables_of}
use Rattle.gb_registry.specs.declared.tables.Tables as handed
use Rattle.gb_ask_command.specs.Reported.{Answer, AreReportedOf, IsAnswerTo, IsNotReported, in_earnest}
use Rattle.gb_ask_command.proofs.Reported.{answers_it, shows}
use Rattle.gb_ask_command.proofs.predicting.predict_build.Goals as goal

pub returns-in_err-copied-clause-answer : goal.returns-in_err-copied-clause-answer
returns-in_err-copied-clause-answer g c =
    let F = g.F.Folder in
    let tables = tables_of g.T.Transforms.meanings g.A.Actions.meanings c.args.tables.now in
    let old : Shown = shows (F.device.contents c.args.folder.now) (F.device.failures c.args.folder.now) in
    let p = err_from_is_err_and c.from_residual.result c.from_residual.ensures.1 in
    subst (λ (r : Answer). IsAnswerTo tables (F.device.faithful c.args.folder.now) c.args.invocation.now old r old.failures) (sym p.1) (λ faithful. inr (inr (inl p.2)))

pub returns-in_err-configured-clause-answer : goal.returns-in_err-configured-clause-answer
returns-in_err-configured-clause-answer g c =
    let F = g.F.Folder in
    let tables = tables_of g.T.Transforms.meanings g.A.Actions.meanings c.args.tables.now in
    let old : Shown = shows (F.device.contents c.args.folder.now) (F.device.failures c.args.folder.now) in
    let after = F.device.failures c.read_registry.new.folder in
    let residual = c.from_residual-in_err-configured in
    let p = err_from_is_err_and residual.result residual.ensures.1 in
    subst (λ (r : Answer). IsAnswerTo tables (F.device.faithful c.read_registry.new.folder) c.args.invocation.now old r after) (sym p.1)
    (λ faithful. not_read tables old.contents (in_earnest c.args.invocation.now) c.into_vec-given.result.items (c.into_vec-given.ensures ∙ c.in_ok-copied.ensures)
    c.read_registry.result c.in_err-configured.field-0.0 p.0 old.failures after c.in_err-configured.was p.2 c.read_registry.ensures.blamed (c.in_err-configured.ensures.said faithful)
    old refl refl)

pub returns-clause-answer : goal.returns-clause-answer
returns-clause-answer g c =
    let F = g.F.Folder in
    let M = g.A.Actions.meanings in
    let invocation = c.args.invocation.now in
    let source = c.in_ok-configured.configured.registry in
    let old : Contents = F.device.contents c.args.folder.now in
    let mid : Contents = F.device.contents c.read_registry.new.folder in
    let later = F.device.failures c.read_registry.new.folder in
    let after = F.device.failures c.predict_registered-answer.new.folder in
    let result : Answer = c.predict_registered-answer.result in
    let known = F.device.faithful c.predict_registered-answer.new.folder in
    let back = c.predict_registered-answer.ensures.reads.requests.back in
    let same = c.in_ok-configured.ensures.tables in
    let registry_by : handed.Tables _ _ _ _ _ _ _ → Registry = λ given. registry_said (tables_of g.T.Transforms.meanings M given) source in
    let tables = tables_of g.T.Transforms.meanings M c.args.tables.now in
    answers_it tables known invocation old mid (F.device.failures c.args.folder.now) later after
    (λ faithful. c.read_registry.ensures.reads.same (back faithful)) c.read_registry.ensures.reads.requests.count c.predict_registered-answer.ensures.reads.requests.count (registry_said tables source)
    (λ faithful. registered tables old c.into_vec-given.result.items invocation.properties (c.into_vec-given.ensures ∙ c.in_ok-copied.ensures) source (c.in_ok-configured.ensures.said (back faithful)))
    result
    (subst (λ given. IfOk result (λ reported. IsRegistry (registry_by given))) same c.predict_registered-answer.ensures.sound)
    (subst (λ (given : handed.Tables _ _ _ _ _ _ _). IfOk result (λ reported. AreReportedOf known M given.actions (registry_by given) invocation.requested invocation.excluded invocation.options (shows mid later) after reported.items))
    same c.predict_registered-answer.ensures.reported)
    (subst (λ given. IfErr result (IsNotReported (registry_by given) invocation.requested invocation.excluded later after)) same c.predict_registered-answer.ensures.not_reported)
