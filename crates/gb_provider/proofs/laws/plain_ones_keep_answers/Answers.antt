use Rattle.gb_provider.proofs.GrowLemmas.{values_grown, tasks_grown}
use Rattle.gb_provider.proofs.laws.plain_ones_keep_answers.Goals as goal

pub returns : goal.returns
returns g c nodes added entry within plain below =
    (values_grown g.T.Transforms.meanings nodes added plain within entry below, tasks_grown g.T.Transforms.meanings nodes added plain within entry below)
