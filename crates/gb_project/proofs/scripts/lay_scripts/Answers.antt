use Rattle.std.proofs.Common.{arith, ap, length, ◌∙◌}
use Rattle.gb_registry.proofs.Firsts.{first_among, reported_on}
use Rattle.gb_project.proofs.LaidLemmas.{faults_here, good_more, made_on, sites_on}
use Rattle.gb_project.proofs.TaskLemmas.{length_last}
use Rattle.gb_project.proofs.scripts.lay_scripts.Goals as goal

pub returns-in_err-one-clause-faults : goal.returns-in_err-one-clause-faults
returns-in_err-one-clause-faults g c =
    let before = c.loop-scripted.invariant in
    let i = c.loop-scripted.scripted-index in
    let scripted = c.scripted-item.result in
    let functions = c.args.providers.now.table in
    let table = c.loop-scripted.providers.table in
    let nodes = c.loop-scripted.providers.nodes in
    reported_on _ _ c.in_err-one.field-0.0 c.from_residual.ensures.1
    (first_among _ _ _ c.in_err-one.field-0.0
    (faults_here functions table before.table c.args.given.now.entries c.args.scripts.now i scripted c.loop-scripted-test.true c.scripted-item.is nodes nodes g.T.Transforms.meanings _ before.good)
    c.in_err-one.ensures.faults)

pub loop-scripted-preserved : goal.loop-scripted-preserved
loop-scripted-preserved g c =
    let before = c.loop-scripted.invariant in
    let i = c.loop-scripted.scripted-index in
    let scripted = c.scripted-item.result in
    let scripts = c.args.scripts.now in
    let given = c.args.given.now.entries in
    let functions = c.args.providers.now.table in
    let table = c.loop-scripted.providers.table in
    let nodes = c.loop-scripted.providers.nodes in
    let new = c.add_script.new.providers.nodes in
    let run = c.in_ok-one.ensures.made in
    let below = c.loop-scripted-test.true in
    let is = c.scripted-item.is in
    record {
      table = run.table ∙ before.table;
      count = omega (arith, ap length c.in_ok-push.ensures.items, length_last c.loop-scripted.laid.items c.in_ok-one.one, before.count);
      sites =
          sites_on functions table before.table given scripts i scripted below is nodes new _ c.loop-scripted.laid.items c.push.new.self.items c.in_ok-one.one
          before.count c.in_ok-push.ensures.items run.made c.in_ok-one.ensures.laid before.sites;
      made = made_on functions table before.table given scripts i scripted below is nodes new _ run.made before.made;
      grown = omega (arith, before.grown, run.grown);
      good =
          good_more functions table before.table given scripts i scripted below is nodes new g.T.Transforms.meanings _ run.made c.in_ok-one.ensures.faults before.good;
    }
