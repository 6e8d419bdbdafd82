use Rattle.std.proofs.Common.{◌≡◌, ◌++◌, map, take}
use Rattle.gb_check.specs.Warnings.{rooted}
use Rattle.gb_check.proofs.all_places.push_roots.Given as goal

abbrev pub invariant-loop-place : goal.invariant-loop-place
invariant-loop-place l = l.roots.items ≡ l.fn.roots.items ++ map (rooted l.path) (take l.place-index l.places)
