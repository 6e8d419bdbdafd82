use Rattle.std.proofs.Common.{sym, ap, ◌∙◌, Err, refl}
use Rattle.gb_label.proofs.Reported.{device, err_is, reported_machine}
use Rattle.gb_label.proofs.completing.complete.Goals as goal

pub returns-in-Err-clause-blame : goal.returns-in-Err-clause-blame
returns-in-Err-clause-blame g c = λ place e.
    (c.completed.ensures.blame place (c.in-Err.is ∙ ap Err (device c.in-Err.fault place (sym c.reported.ensures ∙ err_is _ _ _ refl e)))).1

pub returns-in-Err-clause-blamed : goal.returns-in-Err-clause-blamed
returns-in-Err-clause-blamed g c = λ place e.
    (c.completed.ensures.blame place (c.in-Err.is ∙ ap Err (device c.in-Err.fault place (sym c.reported.ensures ∙ err_is _ _ _ refl e)))).0

pub returns-in-Err-clause-err : goal.returns-in-Err-clause-err
returns-in-Err-clause-err g c = λ faithful all.
    reported_machine _ _ c.in-Err.fault c.reported.result c.reported.ensures (c.in-Err.ensures.err faithful all)
