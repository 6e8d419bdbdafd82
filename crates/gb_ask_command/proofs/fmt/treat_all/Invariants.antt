use Rattle.std.proofs.Common.{take, Ok}
use Rattle.gb_ask_command.specs.Fmt.{IsTreated}
use Rattle.gb_ask_command.proofs.Treating.{AllDone}
use Rattle.gb_ask_command.proofs.fmt.treat_all.Given as goal

abbrev pub invariant-loop-name : goal.invariant-loop-name
invariant-loop-name g l =
    let F = g.F.Folder in
    let W = g.W.Printer in
    AllDone F.device W.contents W.whole (IsTreated l.mode l.headed l.input) (take l.name-index l.names) l.fn.folder l.fn.writer l.fn.any (Ok tt) l.folder l.writer l.any
