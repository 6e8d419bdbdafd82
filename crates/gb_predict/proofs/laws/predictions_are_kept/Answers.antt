use Rattle.gb_predict.proofs.Keeping.{predictions_are_kept}
use Rattle.gb_predict.proofs.laws.predictions_are_kept.Goals as goal

pub returns : goal.returns
returns g c = predictions_are_kept g.B.Build.rules
