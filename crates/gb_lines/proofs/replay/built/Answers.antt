use Rattle.gb_answer.proofs.Parts.{printed_of}
use Rattle.gb_printer.proofs.Printed.{prints_nothing}
use Rattle.gb_lines.proofs.replay.built.Goals as goal

pub returns-in-Ok : goal.returns-in-Ok
returns-in-Ok g c =
    printed_of g.P.Printer.contents g.P.Printer.whole c.invoke.result c.args.printer.now c.invoke.new.printer c.invoke.ensures.printed c.invoke.ensures.unprinted

pub returns-in-Err : goal.returns-in-Err
returns-in-Err g c = prints_nothing g.P.Printer.contents g.P.Printer.whole c.args.printer.now
