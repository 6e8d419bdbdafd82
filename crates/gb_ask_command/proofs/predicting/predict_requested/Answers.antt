use Rattle.std.proofs.Common.{List, IfErr, false, inl, inr, sym, subst}
use Rattle.std.proofs.lemmas.Result.{err_from_is_err_and}
use Rattle.std.specs.List.{AllByRecursion}
use Rattle.gb_task.specs.Buildable.{IsBuildable}
use Rattle.gb_graph.specs.Answer.{IsRefusalOf}
use Rattle.gb_build.proofs.Planning.{can_build}
use Rattle.gb_build.specs.Refusing.{IsUnread}
use Rattle.gb_semantics.specs.Edits.{Shown}
use Rattle.gb_plan.specs.Graph.{Plan}
use Rattle.gb_plan.specs.declared.plan.Planned.{Planned}
use Rattle.gb_ask_command.specs.Reported.{Answer, AreReported, AreReportedOf, IsNotReported}
use Rattle.gb_ask_command.proofs.Reported.{err_more, shows}
use Rattle.gb_ask_command.proofs.predicting.predict_requested.Goals as goal
use Rattle.gb_project.proofs.BeginLemmas.{ok_if}

pub returns-in_err-plan-clause-not_reported : goal.returns-in_err-plan-clause-not_reported
returns-in_err-plan-clause-not_reported g c =
    let registry = g.Ts.Tasks.registry c.args.tasks.now in
    let failures = g.F.Folder.device.failures c.args.folder.now in
    let p = err_from_is_err_and c.from_residual.result c.from_residual.ensures.1 in
    subst (λ (r : Answer). IfErr r (IsNotReported registry c.args.requested.now c.args.excluded.now failures failures)) (sym p.1)
    (inl (subst (IsRefusalOf registry c.args.requested.now c.args.excluded.now) (sym p.2) c.in_err-plan.ensures.fault))

pub predict_planned-requires : goal.predict_planned-requires
predict_planned-requires g c =
    subst (λ (plan : List Planned). AllByRecursion (λ (planned : Planned). IsBuildable g.A.Actions.meanings c.args.table.now planned.task) plan) (sym c.as_slice.ensures)
    (can_build (g.Ts.Tasks.registry c.args.tasks.now) c.args.requested.now c.args.excluded.now c.in_ok-plan.plan c.in_ok-plan.ensures.plan g.A.Actions.meanings c.args.table.now c.requires).tasks

pub returns-clause-reported : goal.returns-clause-reported
returns-clause-reported g c =
    let F = g.F.Folder in
    let known = F.device.faithful c.predict_planned.new.folder in
    let meanings = g.A.Actions.meanings in
    let old : Shown = shows (F.device.contents c.args.folder.now) (F.device.failures c.args.folder.now) in
    let after = F.device.failures c.predict_planned.new.folder in
    ok_if (λ reported. AreReported known meanings c.args.table.now c.args.options old after c.as_slice.result.now reported.items)
    (λ reported. AreReportedOf known meanings c.args.table.now (g.Ts.Tasks.registry c.args.tasks.now) c.args.requested.now c.args.excluded.now c.args.options old after reported.items)
    (λ reported is. (
      c.in_ok-plan.plan,
      c.in_ok-plan.ensures.plan,
      subst (λ (plan : Plan). AreReported known meanings c.args.table.now c.args.options old after plan reported.items) c.as_slice.ensures is,
    ))
    c.predict_planned.result c.predict_planned.ensures.reported

pub returns-clause-not_reported : goal.returns-clause-not_reported
returns-clause-not_reported g c =
    let F = g.F.Folder in
    let before = F.device.failures c.args.folder.now in
    let after = F.device.failures c.predict_planned.new.folder in
    err_more (IsUnread false before after) (IsNotReported (g.Ts.Tasks.registry c.args.tasks.now) c.args.requested.now c.args.excluded.now before after)
    (λ fault why. inr why) c.predict_planned.result c.predict_planned.ensures.unread
