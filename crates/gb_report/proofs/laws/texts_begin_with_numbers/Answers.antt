use Rattle.gb_report.proofs.Numbers.{begins_with_number}
use Rattle.gb_report.proofs.laws.texts_begin_with_numbers.Goals as goal

pub returns : goal.returns
returns c = begins_with_number
