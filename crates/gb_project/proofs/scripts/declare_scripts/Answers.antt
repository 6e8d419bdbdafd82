use Rattle.std.proofs.Common.{arith, length, ◌∙◌}
use Rattle.gb_registry.specs.Tables.{tables_of}
use Rattle.gb_project.proofs.LaidLemmas.{good_scripts, next_script, next_scripts, scripts_on, there_script, there_scripts}
use Rattle.gb_project.specs.Views.{stage_of}
use Rattle.gb_project.proofs.scripts.declare_scripts.Goals as goal

pub declare_script-requires-clause-there : goal.declare_script-requires-clause-there
declare_script-requires-clause-there g c =
    let tables = tables_of g.T.Transforms.meanings g.A.Actions.meanings c.args.tables.now in
    there_script tables c.args.names.now c.args.given.now.entries c.args.scripts.now c.loop-scripted.scripted-index c.scripted-item.result c.loop-scripted-test.true c.scripted-item.is
    c.loop-scripted.rest.now c.in-Some.others.now c.in-Some.one.now c.in-Some.ensures.cases.0 (length c.loop-scripted.providers.nodes) c.loop-scripted.invariant.there

pub declare_script-requires-clause-next : goal.declare_script-requires-clause-next
declare_script-requires-clause-next g c =
    let tables = tables_of g.T.Transforms.meanings g.A.Actions.meanings c.args.tables.now in
    next_script tables c.args.names.now c.args.given.now.entries c.args.scripts.now c.loop-scripted.scripted-index c.scripted-item.result c.loop-scripted-test.true c.scripted-item.is
    _ c.loop-scripted.invariant.next

pub loop-scripted-preserved : goal.loop-scripted-preserved
loop-scripted-preserved g c =
    let tables = tables_of g.T.Transforms.meanings g.A.Actions.meanings c.args.tables.now in
    let names = c.args.names.now in
    let given = c.args.given.now.entries in
    let scripts = c.args.scripts.now in
    let i = c.loop-scripted.scripted-index in
    let scripted = c.scripted-item.result in
    let below = c.loop-scripted-test.true in
    let is = c.scripted-item.is in
    let rest = c.loop-scripted.rest.now in
    let others = c.in-Some.others.now in
    let one = c.in-Some.one.now in
    let cut = c.in-Some.ensures.cases.0 in
    let before = c.loop-scripted.invariant in
    let run = c.in_ok-declare_script.ensures in
    let old = stage_of c.loop-scripted.providers.nodes c.loop-scripted.declared in
    let new = stage_of c.declare_script.new.providers.nodes c.declare_script.new.declared in
    record {
      table = run.table ∙ before.table;
      staged = scripts_on tables names given scripts i scripted below is rest others one cut _ old new run.staged before.staged;
      grown = omega (arith, before.grown, run.grown);
      there =
          there_scripts tables names given scripts i scripted below is rest others one cut (length c.loop-scripted.providers.nodes) (length c.declare_script.new.providers.nodes) run.grown before.there;
      good = good_scripts tables names given scripts i scripted below is rest others one cut before.good;
      next = next_scripts tables names given scripts i scripted below is rest others one cut c.args.paths.now old new run.staged before.next;
    }
