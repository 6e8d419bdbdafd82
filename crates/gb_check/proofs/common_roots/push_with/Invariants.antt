use Rattle.std.proofs.Common.{◌≡◌, ◌++◌, take}
use Rattle.std.specs.List.{flat_map}
use Rattle.gb_check.specs.Warnings.{pair_of}
use Rattle.gb_check.proofs.common_roots.push_with.Given as goal

abbrev pub invariant-loop-second : goal.invariant-loop-second
invariant-loop-second l = l.found.items ≡ l.fn.found.items ++ flat_map (pair_of l.sites l.path l.first) (take l.second-index l.others)
