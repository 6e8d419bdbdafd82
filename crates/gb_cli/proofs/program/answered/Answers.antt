use Rattle.std.proofs.Common.{inl, inr, refl}
use Rattle.gb_folder.proofs.Asked.{requests_nothing}
use Rattle.gb_answer.proofs.Parts.{printed_of}
use Rattle.gb_printer.proofs.Printed.{prints_nothing}
use Rattle.gb_build.proofs.InvocationAsked.{calls_keep}
use Rattle.gb_cli.proofs.program.answered.Goals as goal

pub returns-in-Ok-clause-answers : goal.returns-in-Ok-clause-answers
returns-in-Ok-clause-answers g c = λ faithful. inr (c.in-Ok.invocation, c.in-Ok.ensures, c.invoke.ensures.promise faithful)

pub returns-in-Ok-clause-does : goal.returns-in-Ok-clause-does
returns-in-Ok-clause-does g c = inr (c.in-Ok.invocation, c.in-Ok.ensures, c.invoke.ensures.does)

pub returns-in-Err-clause-does : goal.returns-in-Err-clause-does
returns-in-Err-clause-does g c = inl (c.in-Err.fault, c.in-Err.ensures, refl, requests_nothing c.args.folder.now)

pub returns-in-Ok-clause-back : goal.returns-in-Ok-clause-back
returns-in-Ok-clause-back g c = (calls_keep g.F.Folder.device c.args.folder.now c.invoke.new.folder c.invoke.ensures.does.calls).back

pub returns-in-Ok-clause-count : goal.returns-in-Ok-clause-count
returns-in-Ok-clause-count g c = (calls_keep g.F.Folder.device c.args.folder.now c.invoke.new.folder c.invoke.ensures.does.calls).count

pub returns-in-Ok-clause-printed : goal.returns-in-Ok-clause-printed
returns-in-Ok-clause-printed g c =
    printed_of g.W.Printer.contents g.W.Printer.whole c.invoke.result c.args.writer.now c.invoke.new.printer c.invoke.ensures.printed c.invoke.ensures.unprinted

pub returns-in-Err-clause-printed : goal.returns-in-Err-clause-printed
returns-in-Err-clause-printed g c = prints_nothing g.W.Printer.contents g.W.Printer.whole c.args.writer.now
