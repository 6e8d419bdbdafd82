use Rattle.std.proofs.Common.{List, Ok, subst}
use Rattle.std.proofs.lemmas.List.{take_all}
use Rattle.std.proofs.lemmas.Result.{err_from_is_err_and}
use Rattle.gb_folder.proofs.Machine.{at_err}
use Rattle.gb_run.specs.Doing.{Ending}
use Rattle.gb_run.specs.declared.work.Part.{Part}
use Rattle.gb_run.proofs.PartByPart.{PartsLed, parts_more, parts_short}
use Rattle.gb_run.proofs.work_parts.do_parts.Goals as goal

pub loop-part-preserved : goal.loop-part-preserved
loop-part-preserved g c = parts_more _ c.args.parts.now c.loop-part.part-index c.part-item.result c.loop-part-test.true c.part-item.is _ _ _ _ _ _ c.loop-part.invariant c.in_ok-do_part.ensures

pub returns-in_err-do_part : goal.returns-in_err-do_part
returns-in_err-do_part g c =
    let F = g.F.Folder in
    let p = err_from_is_err_and c.from_residual.result c.from_residual.ensures.1 in
    at_err (λ (r : Ending). PartsLed F.device c.args.parts.now c.args.folder.now c.args.lines.now r c.do_part.new.folder c.do_part.new.lines)
    c.from_residual.result p.0 c.in_err-do_part.field-0.0 p.1 p.2
    (parts_short _ c.args.parts.now c.loop-part.part-index c.part-item.result c.loop-part-test.true c.part-item.is _ _ _ _ _ _ c.in_err-do_part.field-0.0 c.loop-part.invariant c.in_err-do_part.ensures)

pub returns : goal.returns
returns g c =
    let F = g.F.Folder in
    subst (λ (parts : List Part). PartsLed F.device parts c.args.folder.now c.args.lines.now (Ok tt) c.loop-part.folder c.loop-part.lines)
    (take_all c.loop-part.part-index c.args.parts.now c.loop-part-test.false) c.loop-part.invariant
