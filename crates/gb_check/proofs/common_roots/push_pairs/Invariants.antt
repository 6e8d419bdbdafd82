use Rattle.std.proofs.Common.{◌≡◌, ◌++◌, length}
use Rattle.gb_check.specs.Warnings.{pairs_in}
use Rattle.gb_check.proofs.common_roots.push_pairs.Given as goal

abbrev pub invariant-properties : goal.invariant-properties
invariant-properties l = l.found.items ++ pairs_in l.sites l.path l.rest ≡ l.fn.found.items ++ pairs_in l.sites l.path l.files

abbrev pub decreases-properties : goal.decreases-properties
decreases-properties l = length l.rest
