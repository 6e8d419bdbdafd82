use Rattle.gb_registry.specs.Tables.{tables_of}
use Rattle.gb_project.specs.Over.{known_names}
use Rattle.gb_project.proofs.AskLemmas.{only_memory, tasks_there}
use Rattle.gb_project.proofs.one_value.producers.Goals as goal

pub returns-in-Ok-clause-reported : goal.returns-in-Ok-clause-reported
returns-in-Ok-clause-reported g c = λ source number over.
    let context = c.args.context.now in
    let tables = tables_of g.T.Transforms.meanings g.A.Actions.meanings context.tables.now in
    tasks_there tables source (known_names context.projects.now context.tasks.now) context.faults.now c.args.providers.now.nodes number over c.args.node.number c.requires.value c.in-Ok.tasks c.in-Ok.ensures.producers

pub want_of_memory-requires : goal.want_of_memory-requires
want_of_memory-requires g c = only_memory g.T.Transforms.meanings c.args.providers.now.nodes c.args.node.number c.requires.value c.in-Err.fault c.in-Err.ensures.producers
