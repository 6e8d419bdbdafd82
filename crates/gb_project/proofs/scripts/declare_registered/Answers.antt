use Rattle.std.proofs.Common.{sym, ap, subst}
use Rattle.gb_registry.specs.Said.{Registered}
use Rattle.gb_registry.specs.Tables.{tables_of}
use Rattle.gb_declare.specs.Views.{registered_of}
use Rattle.gb_declare.specs.Site.{site_of}
use Rattle.gb_project.proofs.ScriptLemmas.{on_ok, same_declared, same_task, task_with}
use Rattle.gb_project.proofs.TaskLemmas.{staged_like}
use Rattle.gb_project.specs.Stage.{IsGood}
use Rattle.gb_project.specs.Views.{stage_of}
use Rattle.gb_project.proofs.scripts.declare_registered.Goals as goal

pub declare_task-requires-clause-good : goal.declare_task-requires-clause-good
declare_task-requires-clause-good g c =
    let tables = tables_of g.T.Transforms.meanings g.A.Actions.meanings c.args.tables.now in
    let names = c.args.names.now in
    let indexed = c.args.script.now in
    let script = indexed.scripted.now.script in
    let project = indexed.scripted.now.project in
    let task = registered_of c.in_ok-task.task in
    let same = same_task task project c.path-project.result.now script c.args.registration.now c.path-project.ensures (c.in_ok-task.ensures script c.requires.indexed.blocks) in
    subst (IsGood tables names (site_of c.args.site.now))
    (sym (same_declared tables names script c.args.site.now.project.now indexed.properties task (task_with project script c.args.registration.now) same c.requires.project c.requires.indexed.properties)) c.requires.good

pub returns : goal.returns
returns g c =
    let tables = tables_of g.T.Transforms.meanings g.A.Actions.meanings c.args.tables.now in
    let names = c.args.names.now in
    let indexed = c.args.script.now in
    let script = indexed.scripted.now.script in
    let project = indexed.scripted.now.project in
    let task = registered_of c.in_ok-task.task in
    let same = same_task task project c.path-project.result.now script c.args.registration.now c.path-project.ensures (c.in_ok-task.ensures script c.requires.indexed.blocks) in
    on_ok c.declare_task.result _ _
    (staged_like c.args.providers.now c.declare_task.new.providers c.declare_task.new.declared c.args.tables.now.transforms (site_of c.args.site.now) (stage_of c.args.providers.now.nodes c.args.declared.now)
    task.path (task_with project script c.args.registration.now).path _ _ (ap (λ (t : Registered). t.path) same)
    (same_declared tables names script c.args.site.now.project.now indexed.properties task (task_with project script c.args.registration.now) same c.requires.project c.requires.indexed.properties)) c.declare_task.ensures
