use Rattle.std.proofs.Common.{◌≡◌, ◌++◌, drop}
use Rattle.gb_provider.specs.Names.{names_on}
use Rattle.gb_provider.proofs.circle_names.names_on.Given as goal

abbrev pub invariant-loop-number : goal.invariant-loop-number
invariant-loop-number g l = l.names ++ names_on l.nodes (drop l.number-index l.circle) ≡ names_on l.nodes l.circle
