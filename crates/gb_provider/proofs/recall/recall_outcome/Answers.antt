use Rattle.std.proofs.Common.{arith}
use Rattle.std.proofs.lemmas.Grind.{common_steps}
use Rattle.gb_provider.proofs.recall.recall_outcome.Goals as goal

pub share_known-requires-clause-within : goal.share_known-requires-clause-within
share_known-requires-clause-within g c = grind (arith, common_steps)
