use Rattle.gb_provider.proofs.WithinLemmas.{numbers_within}
use Rattle.gb_provider.proofs.providers.Providers.list.Goals as goal

pub add-requires-clause-within : goal.add-requires-clause-within
add-requires-clause-within g c = rw c.in_ok-operands.ensures (numbers_within _ c.args.elements.now c.requires)
