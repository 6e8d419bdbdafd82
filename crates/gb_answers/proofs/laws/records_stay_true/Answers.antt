use Rattle.gb_registry.specs.Tables.{tables_of}
use Rattle.gb_answers.proofs.Truthful.{records_stay_true}
use Rattle.gb_answers.proofs.laws.records_stay_true.Goals as goal

pub returns : goal.returns
returns g c =
    let F = g.F.Folder in
    let meanings = g.A.Actions.meanings in
    records_stay_true F.device (tables_of g.T.Transforms.meanings meanings c.args.tables.now) g.A.Actions.own_output
