use Rattle.gb_printer.proofs.Printed.{prints_flushed}
use Rattle.gb_printer.proofs.page.PagePrinter.print.Goals as goal

pub returns : goal.returns
returns g c = prints_flushed _ _ _ c.args.self.now c.push.new.self c.flush.new.self c.push.ensures c.flush.ensures.kept c.flush.ensures.whole
