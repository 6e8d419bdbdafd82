use Rattle.std.proofs.Common.{◌≡◌, ◌++◌, drop}
use Rattle.gb_tree.specs.Reading.{digests_observed}
use Rattle.gb_tree.proofs.kept.Reading.prints.Given as goal

abbrev pub invariant-loop-observed : goal.invariant-loop-observed
invariant-loop-observed l = l.digests.items ++ digests_observed (drop l.observed-index l.observed-items) ≡ digests_observed l.observed-items
