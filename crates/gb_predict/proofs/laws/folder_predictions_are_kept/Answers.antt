use Rattle.gb_predict.proofs.Digested.{folder_predictions}
use Rattle.gb_predict.proofs.laws.folder_predictions_are_kept.Goals as goal

pub returns : goal.returns
returns g c =
    folder_predictions c.decision_is_case.ensures c.decided_outside.ensures c.what_is_read_is_known.ensures c.runs_are_of_case.ensures c.changes_are_reasons.ensures g.B.Build.rules
