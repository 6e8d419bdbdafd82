use Rattle.gb_printer.proofs.Printed.{prints_flushed}
use Rattle.gb_printer.proofs.page.PagePrinter.print_task.Goals as goal

pub returns-then-may_be_long : goal.returns-then-may_be_long
returns-then-may_be_long g c = prints_flushed _ _ _ c.args.self.now c.push_part.new.self c.flush.new.self c.push_part.ensures c.flush.ensures.kept c.flush.ensures.whole
