use Rattle.std.proofs.Common.{take, Ok}
use Rattle.gb_run.proofs.PartByPart.{PartsLed}
use Rattle.gb_run.proofs.work_parts.do_parts.Given as goal

abbrev pub invariant-loop-part : goal.invariant-loop-part
invariant-loop-part g l =
    let F = g.F.Folder in
    PartsLed F.device (take l.part-index l.parts) l.fn.folder l.fn.lines (Ok tt) l.folder l.lines
