use Rattle.std.proofs.Common.{[], ap, ◌∙◌}
use Rattle.gb_registry.specs.SoFar.{scripts_faults, scripts_in}
use Rattle.gb_registry.specs.Tables.{tables_of}
use Rattle.gb_registry.proofs.Alike.{first_other, more_if_none, none_other, scripts_alike, starts}
use Rattle.gb_registry.proofs.configure.checked_in_order.Goals as goal

pub returns-in-Err-clause-faults : goal.returns-in-Err-clause-faults
returns-in-Err-clause-faults g c =
    let tables = tables_of g.T.Transforms.meanings g.A.Actions.meanings c.args.tables.now in
    let scripts = scripts_in c.args.scripts.now in
    let so_far = c.new-so_far.result in
    let alike = scripts_alike tables scripts [] so_far (starts so_far c.new-so_far.ensures) c.requires in
    first_other (scripts_faults tables so_far scripts) _ c.in-Err.fault alike c.in-Err.ensures.faults

pub returns-clause-tasks : goal.returns-clause-tasks
returns-clause-tasks g c =
    let tables = tables_of g.T.Transforms.meanings g.A.Actions.meanings c.args.tables.now in
    let scripts = scripts_in c.args.scripts.now in
    let so_far = c.new-so_far.result in
    let alike = scripts_alike tables scripts [] so_far (starts so_far c.new-so_far.ensures) c.requires in
    let more = more_if_none (scripts_faults tables so_far scripts) _ alike c.in-Ok.ensures.faults in
    c.into_tasks.ensures ∙ ap (λ s. s.tasks) c.in-Ok.ensures.ok ∙ more.tasks

pub returns-clause-faults : goal.returns-clause-faults
returns-clause-faults g c =
    let tables = tables_of g.T.Transforms.meanings g.A.Actions.meanings c.args.tables.now in
    let scripts = scripts_in c.args.scripts.now in
    let so_far = c.new-so_far.result in
    let alike = scripts_alike tables scripts [] so_far (starts so_far c.new-so_far.ensures) c.requires in
    none_other (scripts_faults tables so_far scripts) _ alike c.in-Ok.ensures.faults
