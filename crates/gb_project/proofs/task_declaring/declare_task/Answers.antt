use Rattle.std.proofs.Common.{◌≡◌, [], Some, sym, subst}
use Rattle.gb_registry.specs.Tables.{tables_of}
use Rattle.gb_registry.specs.Wrong.{found_in_all}
use Rattle.gb_script.specs.Tree.{trees_of}
use Rattle.gb_declare.specs.Declaring.{faults_within, scope_in}
use Rattle.gb_declare.specs.Joined.{joined}
use Rattle.gb_declare.specs.Views.{joined_of, registered_of}
use Rattle.gb_declare.specs.Whole.{trees_of as expressions_of}
use Rattle.gb_declare.specs.Site.{site_of}
use Rattle.gb_declare.specs.Wrong.{link_faults, root_faults}
use Rattle.gb_project.proofs.TaskLemmas.{unless_holds}
use Rattle.gb_project.specs.Stage.{IsGood}
use Rattle.gb_project.proofs.task_declaring.declare_task.Goals as goal

pub add_declared-requires-clause-good : goal.add_declared-requires-clause-good
add_declared-requires-clause-good g c =
    let tables = tables_of g.T.Transforms.meanings g.A.Actions.meanings c.args.tables.now in
    let names = c.args.names.now in
    let site = site_of c.args.site.now in
    let task = registered_of c.args.task.now in
    let said = joined_of c.in-Ok.said in
    let outcome = unless_holds (faults_within tables (scope_in c.args.site.now.project.now c.args.properties.now (Some names)) task) (joined task) said c.in-Ok.ensures.faults c.in-Ok.ensures.joined in
    let good = subst (IsGood tables names site) outcome c.requires.good in
    subst (λ f. found_in_all (root_faults site) (link_faults g.T.Transforms.meanings f) (trees_of (expressions_of said)) ≡ []) (sym c.requires.table) good
