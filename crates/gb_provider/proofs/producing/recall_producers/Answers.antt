use Rattle.std.proofs.Common.{arith}
use Rattle.std.proofs.lemmas.Grind.{common_steps}
use Rattle.gb_provider.proofs.producing.recall_producers.Goals as goal

pub report_producers-requires-clause-number : goal.report_producers-requires-clause-number
report_producers-requires-clause-number g c = grind (arith, common_steps)
