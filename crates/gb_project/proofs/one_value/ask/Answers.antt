use Rattle.gb_registry.specs.Tables.{tables_of}
use Rattle.gb_project.specs.Over.{known_names}
use Rattle.gb_project.proofs.AskLemmas.{err_shows, ok_shows}
use Rattle.gb_project.proofs.one_value.ask.Goals as goal

pub returns-in-Ok-clause-reported : goal.returns-in-Ok-clause-reported
returns-in-Ok-clause-reported g c = λ source number over.
    let context = c.args.context.now in
    ok_shows (tables_of g.T.Transforms.meanings g.A.Actions.meanings context.tables.now) source (known_names context.projects.now context.tasks.now) context.faults.now c.args.providers.now.nodes number over c.args.node.number c.in-Ok.value c.in-Ok.ensures.got

pub returns-in_ok-fault_of-in-Err-clause-reported : goal.returns-in_ok-fault_of-in-Err-clause-reported
returns-in_ok-fault_of-in-Err-clause-reported g c = λ source number over.
    let context = c.args.context.now in
    err_shows (tables_of g.T.Transforms.meanings g.A.Actions.meanings context.tables.now) source (known_names context.projects.now context.tasks.now) context.faults.now c.args.providers.now.nodes number over c.args.node.number c.requires c.in-Err.fault
    c.in_ok-fault_of-in-Err.field-0 c.in-Err.ensures.got c.in_ok-fault_of-in-Err.ensures
