use Rattle.gb_printer.proofs.Parts.{in_parts}
use Rattle.gb_printer.proofs.laws.parts_come_first.Goals as goal

pub returns : goal.returns
returns c = in_parts
