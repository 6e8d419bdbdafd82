use Rattle.std.proofs.Common.{List, refl, sym, subst}
use Rattle.gb_provider.specs.declared.expression.Node.{Node}
use Rattle.gb_declare.specs.Views.{joined_of}
use Rattle.gb_declare.specs.Nodes.{AreMade}
use Rattle.gb_declare.specs.Site.{site_of}
use Rattle.gb_project.proofs.TaskLemmas.{declared_one}
use Rattle.gb_project.specs.Stage.{row_made}
use Rattle.gb_project.specs.declared.declared_task.DeclaredTask as kept
use Rattle.gb_project.proofs.task_declaring.add_declared.Goals as goal

pub returns : goal.returns
returns g c =
    let old = c.args.providers.now in
    let mid = c.add_row.new.providers in
    let site = site_of c.args.site.now in
    let task = c.args.task in
    let row = c.as_slice.result.now in
    let entry : kept.DeclaredTask = record { build = c.in_ok-build.build; task = task; row = c.in_ok-row.row } in
    let made = subst (λ (r : List Node). AreMade old mid (row_made old.table site old.nodes (joined_of task)) r) (sym c.as_slice.ensures.value) c.in_ok-row.ensures.made in
    declared_one old c.add_outputs.new.providers site c.args.path.now c.args.declared.now (record { faults = c.push.new.self; entries = c.push-2.new.self }) mid task row entry made c.in_ok-add_outputs.ensures
    c.in_ok-build.ensures refl (sym c.as_slice.ensures.value) c.in_ok-push.ensures.items c.in_ok-push-2.ensures.items
