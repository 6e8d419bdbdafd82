use Rattle.std.proofs.Common.{◌≡◌, ◌++◌, take}
use Rattle.std.specs.List.{flat_map}
use Rattle.gb_check.specs.Warnings.{unneeded_at}
use Rattle.gb_check.proofs.between.push_roots.Given as goal

abbrev pub invariant-loop-root : goal.invariant-loop-root
invariant-loop-root l = l.found.items ≡ l.fn.found.items ++ flat_map (unneeded_at l.sites l.reader l.maker) (take l.root-index l.roots)
