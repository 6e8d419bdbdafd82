use Rattle.gb_registry.specs.Tables.{tables_of}
use Rattle.gb_project.proofs.RealiseLemmas.{declares, is_at_fault}
use Rattle.gb_project.proofs.script_tasks.ScriptTasksTasks.realise.Goals as goal

pub returns-clause-task : goal.returns-clause-task
returns-clause-task g c =
    let space = c.args.self.now.workspace in
    declares (tables_of g.T.Transforms.meanings g.A.Actions.meanings space.tables) space.source c.args.path.now c.requires c.realise.result c.realise.ensures.reported

pub returns-clause-fault : goal.returns-clause-fault
returns-clause-fault g c =
    let space = c.args.self.now.workspace in
    is_at_fault (tables_of g.T.Transforms.meanings g.A.Actions.meanings space.tables) space.source c.args.path.now c.requires c.realise.result c.realise.ensures.reported
