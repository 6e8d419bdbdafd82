use Rattle.gb_registry.specs.Tables.{tables_of}
use Rattle.gb_answers.proofs.Built.{built}
use Rattle.gb_answers.proofs.Step.{step}
use Rattle.gb_answers.proofs.laws.answered_success_is_from_scratch.Goals as goal

pub returns : goal.returns
returns g c =
    let F = g.F.Folder in
    let meanings = g.A.Actions.meanings in
    let rows = c.args.tables.now.actions in
    built F.device (tables_of g.T.Transforms.meanings meanings c.args.tables.now)
    (λ leaves Shows are kinds agrees options plan. step F.device leaves Shows are meanings rows kinds agrees g.A.Actions.own_output options plan)
