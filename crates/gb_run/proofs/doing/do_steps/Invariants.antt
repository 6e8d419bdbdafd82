use Rattle.std.proofs.Common.{take, Ok}
use Rattle.gb_run.proofs.Done.{Led}
use Rattle.gb_run.proofs.doing.do_steps.Given as goal

abbrev pub invariant-loop-step : goal.invariant-loop-step
invariant-loop-step g l =
    let F = g.F.Folder in
    Led F.device (take l.step-index l.steps) l.fn.folder (Ok tt) l.folder
