use Rattle.std.proofs.Common.{arith, ◌∙◌}
use Rattle.gb_registry.specs.Tables.{tables_of}
use Rattle.gb_declare.specs.Site.{site_of}
use Rattle.gb_project.proofs.ScriptLemmas.{good_on, next_on, staged_on}
use Rattle.gb_project.specs.Tasks.{registered_in}
use Rattle.gb_project.specs.Views.{stage_of}
use Rattle.gb_project.proofs.scripts.declare_each.Goals as goal

pub loop-statement-preserved : goal.loop-statement-preserved
loop-statement-preserved g c =
    let tables = tables_of g.T.Transforms.meanings g.A.Actions.meanings c.args.tables.now in
    let names = c.args.names.now in
    let site = site_of c.args.site.now in
    let script = c.args.script.now.scripted.now.script in
    let pick = registered_in c.args.script.now.scripted.now.project script in
    let ss = c.statements-statement-items.result.now in
    let i = c.loop-statement.statement-index in
    let s = c.statement-item.result in
    let below = c.loop-statement-test.true in
    let is = c.statement-item.is in
    let before = c.loop-statement.invariant in
    let run = c.in_ok-declare_statement.ensures in
    let old = stage_of c.loop-statement.providers.nodes c.loop-statement.declared in
    let new = stage_of c.declare_statement.new.providers.nodes c.declare_statement.new.declared in
    record {
      all = before.all;
      table = run.table ∙ before.table;
      staged = staged_on tables names site script pick ss i s below is _ old new run.staged before.staged;
      grown = omega (arith, before.grown, run.grown);
      good = good_on tables names site script pick ss i s below is before.good;
      next = next_on tables names site script pick ss i s below is c.args.script.now.paths.now old new run.staged before.next;
    }
