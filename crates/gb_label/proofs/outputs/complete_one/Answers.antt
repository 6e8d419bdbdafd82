use Rattle.std.proofs.lemmas.Result.{err_from_is_err_and}
use Rattle.gb_folder.proofs.Machine.{handed_on}
use Rattle.gb_label.proofs.outputs.complete_one.Goals as goal

pub returns-in_err-tree-clause-blamed : goal.returns-in_err-tree-clause-blamed
returns-in_err-tree-clause-blamed g c = λ place device.
    let p = err_from_is_err_and c.from_residual.result c.from_residual.ensures.1 in
    c.complete.ensures.blamed place (handed_on c.from_residual.result c.complete.result p.0 c.in_err-tree.field-0.0 place p.1 p.2 c.in_err-tree.was device)
