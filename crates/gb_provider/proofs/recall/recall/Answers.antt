use Rattle.std.proofs.Common.{arith}
use Rattle.std.proofs.lemmas.Grind.{common_steps}
use Rattle.gb_provider.proofs.recall.recall.Goals as goal

pub report-requires-clause-within : goal.report-requires-clause-within
report-requires-clause-within g c = grind (arith, common_steps)
